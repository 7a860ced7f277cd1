use Rattle.wkb_clients.proofs.KeysFound.{one_key_lem}
use Rattle.wkb_clients.proofs.keys.one_key.Goals as goal

pub returns : goal.returns
returns c = one_key_lem
