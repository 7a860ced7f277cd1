-- The names in the clauses of all kinds, passed on from one place. Declares nothing.
pub use Rattle.wkb_geom.specs.Errors.{IsMemory, TellsFault}
pub use Rattle.wkb_geom.specs.Found.{IsOfWritable}
pub use Rattle.wkb_geom.specs.Geometries.{Geometry, IsGeometry, IsPoint, line_string, multi_polygon, point, polygon}
pub use Rattle.wkb_geom.specs.Parts.{point_meant, line_string_meant, polygon_meant, multi_point_meant}
pub use Rattle.wkb_geom.specs.Parts.{multi_line_string_meant, multi_polygon_meant, collection_meant, rect_meant}
pub use Rattle.wkb_geom.specs.Parts.{triangle_meant, line_meant}
pub use Rattle.wkb_geom.specs.Encodings.{dimensions_fault, fault, inner, form_with_flags, IsForm}
pub use Rattle.wkb_geom.specs.declared.common.Form.TheVariants.{Iso}
pub use Rattle.wkb_sink.specs.Progress.{Lays}
pub use Rattle.wkb_sink.specs.Runs.{uncounted_encoding}
pub use Rattle.wkb_sink.specs.Sinks.{TellsFailure}
pub use Rattle.wkb_sink.specs.declared.block.TheConstants.{MIN_BLOCK}
pub use Rattle.wkb_write.specs.Answers.{encoding_of, fault_of, IsInFront, IsSized, IsSizeOf, IsSliceError}
pub use Rattle.wkb_write.specs.Answers.{PutsGeometry, TellsPut, CopiesTo, WritesTo, WritesToSlice, WritesToVec}
unfoldable pub use Rattle.wkb_write.specs.Answers.{member_encoding}
pub use Rattle.wkb_write.specs.Bodies.{point_measure, polygon_measure, ring_measure, collection_of, whole_size_by_parts}
pub use Rattle.wkb_write.specs.Bodies.{bytes_behind_header, coordinate_words, size_by_parts, AreMembersOf, HasWords}
pub use Rattle.wkb_write.specs.Bodies.{IsLeaf}
pub use Rattle.wkb_write.specs.Counted.{HasFaultlessBody, HasMeasures, ItemList, LaysItem, ListsItems, MeasuresItem}
pub use Rattle.wkb_write.specs.Counted.{items_measure, member_list, ring_list}
pub use Rattle.wkb_write.specs.Measures.{IsAdded, IsMeasured, IsMeasureOf, OfMeasured, Reports, FindsUnsupported}
pub use Rattle.wkb_write.specs.Measures.{IsCountToWrite, IsMeasuredBehindHeader, result_of}
