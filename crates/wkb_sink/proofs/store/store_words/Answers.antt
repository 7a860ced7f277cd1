use Rattle.wkb_sink.proofs.Prelude.{◌≡◌, ◌∙◌, ◌+◌, ◌*◌, ◌/◌, ap, arith, length}
use Rattle.wkb_sink.proofs.Turned.{words_length, turned_front, stored_behind, stored_alone, word_held}
use Rattle.wkb_sink.proofs.store.store_words.Goals as goal

pub returns-then-lent-at-ge-WORD_SIZE : goal.returns-then-lent-at-ge-WORD_SIZE
returns-then-lent-at-ge-WORD_SIZE c words fit held =
    let long : length c.args.lent.now ≡ 8 * length words = ap length held ∙ words_length c.args.held words in
    let i = 2 * (length c.args.lent.now / 16) in
    let more : i + 1 ≡ length words = omega (arith, long, c.if-lent-at-ge-WORD_SIZE.true) in
    let front =
    turned_front c.args.held c.args.order words c.args.lent.now _ _ i fit held c.store_pairs.ensures (omega arith)
    (omega (arith, more)) in
    let item = word_held c.args.held words _ _ i _ fit held (omega arith) c.u64_at-last.ensures (omega (arith, more)) in
    stored_behind c.args.order words _ _ _ _ i _ _ _ long front (omega arith) item c.store_word.ensures more (omega arith)

pub returns-else-lent-at-ge-WORD_SIZE : goal.returns-else-lent-at-ge-WORD_SIZE
returns-else-lent-at-ge-WORD_SIZE c words fit held =
    let long : length c.args.lent.now ≡ 8 * length words = ap length held ∙ words_length c.args.held words in
    let i = 2 * (length c.args.lent.now / 16) in
    let all : i ≡ length words = omega (arith, long, c.if-lent-at-ge-WORD_SIZE.false) in
    let front =
    turned_front c.args.held c.args.order words c.args.lent.now _ _ i fit held c.store_pairs.ensures (omega arith)
    (omega (arith, all)) in
    stored_alone c.args.order words _ _ i _ long front all
