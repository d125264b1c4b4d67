-- The values that the code notes against those that the function's lists define.
-- Assumes nothing.
use Rattle.std.specs.Prelude.{ℕ, ◌+◌, ◌<◌, ◌≡◌, List, ◌++◌, map, length, get_or, take}
use Rattle.values.specs.declared.Value.{Value}
use Rattle.values.specs.declared.Values.{Values}
use Rattle.values.specs.Values.{no_value}
use Rattle.source.specs.Source.{OpText, FunctionText}
use Rattle.verifier.specs.DefinedValues.{inputs_defined, result_defined}

-- "The inputs come first, then each op's result in text order" (01, "The store"), the return having none; before op k those of the ops before it are defined.
-- Whatever stands for an item that a list does not have.
pub record SameValues (text : List ℕ) (vs : Values) (f : FunctionText) : Type 0 where
  pub inputs : vs.inputs ≡ length (inputs_defined text f)
  pub count : vs.count + 1 ≡ length (inputs_defined text f) + length f.ops
  pub input : (i : ℕ) → i < vs.inputs → (d : Value) → get_or vs.list i no_value ≡ get_or (inputs_defined text f) i d
  pub result : (k : ℕ) → k + 1 < length f.ops → (d : OpText) → get_or vs.list (vs.inputs + k) no_value ≡ result_defined text (get_or f.ops k d)
  pub before : (k : ℕ) → k < length f.ops → take (vs.inputs + k) vs.list ≡ inputs_defined text f ++ map (result_defined text) (take k f.ops)
