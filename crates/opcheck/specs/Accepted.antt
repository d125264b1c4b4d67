-- What an op without a broken constraint grants, by its class.
-- Assumes nothing.
use Rattle.std.specs.Prelude.{◌<◌}
use Rattle.dimrules.specs.Dims.{num}
use Rattle.dimrules.specs.Types.{type_at}
use Rattle.optable.specs.declared.Rule.{Rule}
use Rattle.optable.specs.declared.Rule.TheVariants.{SameTypes, Abs, Broadcast, Clamp, Compare, Concatenate, Constant, Convert, DynamicSlice, Iota, Pad, Reduce, Reshape, Reverse, Select, Slice, Transpose}
use Rattle.rules.specs.Facts.{AlikeShapes, AlikeTypes, SameTypesHolds, CompareHolds, SelectHolds, ClampHolds, ReshapeGranted, ReverseHolds, TransposeGranted, BroadcastGranted, SliceGranted, PadGranted, ConcatenateGranted, DynamicSliceGranted, ReduceGranted}
use Rattle.opcheck.specs.declared.Operation.{Operation}

abbrev pub Granted : Rule → Operation → Type 0
Granted SameTypes o = SameTypesHolds o.types o.arity o.result
Granted Abs o = AlikeTypes o.result (type_at o.types 0)
Granted Broadcast o = BroadcastGranted (type_at o.types 0) o.a o.result
Granted Clamp o = ClampHolds (type_at o.types 0) (type_at o.types 1) (type_at o.types 2) o.result
Granted Compare o = CompareHolds (type_at o.types 0) (type_at o.types 1) o.result
Granted Concatenate o = ConcatenateGranted o.types o.arity (num o.a 0) o.result
Granted Constant o = AlikeTypes o.value o.result
Granted Convert o = AlikeShapes (type_at o.types 0).shape o.result.shape
Granted DynamicSlice o = DynamicSliceGranted o.types o.arity o.a o.result
Granted Iota o = num o.a 0 < o.result.shape.rank
Granted Pad o = PadGranted (type_at o.types 0) (type_at o.types 1) o.a o.b o.c o.result
Granted Reduce o = ReduceGranted (type_at o.types 0) (type_at o.types 1) o.left o.right o.a o.result
Granted Reshape o = ReshapeGranted (type_at o.types 0) o.result
Granted Reverse o = ReverseHolds (type_at o.types 0) o.a o.result
Granted Select o = SelectHolds (type_at o.types 0) (type_at o.types 1) (type_at o.types 2) o.result
Granted Slice o = SliceGranted (type_at o.types 0) o.a o.b o.c o.result
Granted Transpose o = TransposeGranted (type_at o.types 0) o.a o.result
