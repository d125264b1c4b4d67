-- An op's attributes by 000's names, as whole numbers: "An attribute number lies in the signed 64-bit range" (01, "Sizes", 7).
-- Assumes nothing.
use Rattle.std.specs.Prelude.{List, [], map, ℕ, get_or, ℤ, pos, negsuc}
use Rattle.ops.specs.declared.Move.TheVariants.{Reshape, BroadcastInDim, Transpose, Slice, Reverse}
use Rattle.ops.specs.declared.Kind.{Kind}
use Rattle.ops.specs.declared.Kind.TheVariants.{Constant, Iota, Elementwise, Pairwise, Quotient, Compare, Convert, Select, Clamp, Moved, Pad, Concatenate, DynamicSlice, Reduce}

-- iota_dimension of iota, dimension of concatenate, broadcast_dimensions of broadcast_in_dim, permutation of transpose, start_indices and strides of
-- slice, edge_padding_low and interior_padding of pad, dimensions of reverse and of reduce; 0 or [] where the op has no such attribute.
-- limit_indices, edge_padding_high and slice_sizes say the shape of the result alone.
pub record OpAttributes : Type 0 where
  pub iota_dimension : ℤ
  pub dimension : ℤ
  pub broadcast_dimensions : List ℤ
  pub permutation : List ℤ
  pub start_indices : List ℤ
  pub strides : List ℤ
  pub edge_padding_low : List ℤ
  pub interior_padding : List ℤ
  pub dimensions : List ℤ

abbrev pub no_attributes : OpAttributes
no_attributes =
    record { iota_dimension = pos 0; dimension = pos 0; broadcast_dimensions = []; permutation = []; start_indices = []; strides = []; edge_padding_low = []; interior_padding = []; dimensions = [] }

-- The attributes of an op of a class, from the lists of its first attribute and of its last in 000's Inputs: of slice start_indices and strides, of
-- pad edge_padding_low and interior_padding. iota_dimension and dimension are each one number, the first of its list.
abbrev pub attributes_by : Kind → List ℤ → List ℤ → OpAttributes
attributes_by Iota a c =
    record { iota_dimension = get_or a 0 (pos 0); dimension = pos 0; broadcast_dimensions = []; permutation = []; start_indices = []; strides = []; edge_padding_low = []; interior_padding = []; dimensions = [] }
attributes_by Concatenate a c =
    record { iota_dimension = pos 0; dimension = get_or a 0 (pos 0); broadcast_dimensions = []; permutation = []; start_indices = []; strides = []; edge_padding_low = []; interior_padding = []; dimensions = [] }
attributes_by (Moved BroadcastInDim) a c =
    record { iota_dimension = pos 0; dimension = pos 0; broadcast_dimensions = a; permutation = []; start_indices = []; strides = []; edge_padding_low = []; interior_padding = []; dimensions = [] }
attributes_by (Moved Transpose) a c =
    record { iota_dimension = pos 0; dimension = pos 0; broadcast_dimensions = []; permutation = a; start_indices = []; strides = []; edge_padding_low = []; interior_padding = []; dimensions = [] }
attributes_by (Moved Slice) a c =
    record { iota_dimension = pos 0; dimension = pos 0; broadcast_dimensions = []; permutation = []; start_indices = a; strides = c; edge_padding_low = []; interior_padding = []; dimensions = [] }
attributes_by Pad a c =
    record { iota_dimension = pos 0; dimension = pos 0; broadcast_dimensions = []; permutation = []; start_indices = []; strides = []; edge_padding_low = a; interior_padding = c; dimensions = [] }
attributes_by (Moved Reverse) a c =
    record { iota_dimension = pos 0; dimension = pos 0; broadcast_dimensions = []; permutation = []; start_indices = []; strides = []; edge_padding_low = []; interior_padding = []; dimensions = a }
attributes_by (Reduce body) a c =
    record { iota_dimension = pos 0; dimension = pos 0; broadcast_dimensions = []; permutation = []; start_indices = []; strides = []; edge_padding_low = []; interior_padding = []; dimensions = a }
attributes_by (Moved Reshape) a c = no_attributes
attributes_by Constant a c = no_attributes
attributes_by (Elementwise op) a c = no_attributes
attributes_by (Pairwise op) a c = no_attributes
attributes_by (Quotient op) a c = no_attributes
attributes_by (Compare d) a c = no_attributes
attributes_by Convert a c = no_attributes
attributes_by Select a c = no_attributes
attributes_by Clamp a c = no_attributes
attributes_by DynamicSlice a c = no_attributes

-- an attribute's number whose constraint in 000 says 0 <= ..; a negative one is no number of an accepted op
abbrev pub natural : ℤ → ℕ
natural (pos n) = n
natural (negsuc n) = 0

abbrev pub naturals : List ℤ → List ℕ
naturals l = map natural l
