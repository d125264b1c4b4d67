use mathlib.Core.Path.{◌≡◌, ap, ◌∙◌}
use mathlib.Core.List.{List}
use Prim.Native.Nat.{ℕ}
use native.Mathlib.Omega.{arith}
use lib.ListN.{length, get_or}
use Rattle.shape.specs.Index.{size}
use Rattle.shape.specs.Dims.{dims_of}
use Rattle.laid.specs.Laid.{written}
use Rattle.values.specs.declared.Value.{Value}
use Rattle.values.specs.Values.{no_value}
use Rattle.values.proofs.ValuesLaw.{any-default}
use Rattle.offsets.specs.Offsets.{size_at}
use Rattle.offsets.proofs.OffsetsLaw.{sum-small}
use Rattle.results.specs.Results.{dense_of, line_of}
use Rattle.results.proofs.ResultsLaw.{line-end, part_length, dense-read, dense-small}
use Rattle.results.proofs.print_value.Goals as goal

pub size_of-requires : goal.size_of-requires
size_of-requires c =
    let read_ : (d : Value) → get_or c.args.vs.list c.args.i d ≡ get_or c.args.vs.list c.args.i no_value = (λ d. let long : length c.args.vs.list ≡ 264 = c.well_formed.0.1.1.1.1.0.1.0.1 in
    any-default c.args.vs.list c.args.i d no_value (omega (arith, c.requires.0, long))) in
    let s = c in
    rw (read_ _) (s.requires.1.sized s.args.i s.requires.0)

pub overflow_add-end : goal.overflow_add-end
unfolding size_at
overflow_add-end c =
    let read_ : (d : Value) → get_or c.args.vs.list c.args.i d ≡ get_or c.args.vs.list c.args.i no_value = (λ d. let long : length c.args.vs.list ≡ 264 = c.well_formed.0.1.1.1.1.0.1.0.1 in
    any-default c.args.vs.list c.args.i d no_value (omega (arith, c.requires.0, long))) in
    let counted_ : let a = c.args in c.size_of.result ≡ size_at a.vs a.i = (c.size_of.ensures ∙ ap (λ (v : Value). size (dims_of v.ty.shape)) (read_ _)) in
    let s = c in
    omega (arith, sum-small s.args.vs s.requires.1 s.args.i s.args.at _ s.requires.0 s.requires.2 (counted_))

pub slice_bounds-print_dense-end : goal.slice_bounds-print_dense-end
unfolding size_at
slice_bounds-print_dense-end c =
    let read_ : (d : Value) → get_or c.args.vs.list c.args.i d ≡ get_or c.args.vs.list c.args.i no_value = (λ d. let long : length c.args.vs.list ≡ 264 = c.well_formed.0.1.1.1.1.0.1.0.1 in
    any-default c.args.vs.list c.args.i d no_value (omega (arith, c.requires.0, long))) in
    let counted_ : let a = c.args in c.size_of.result ≡ size_at a.vs a.i = (c.size_of.ensures ∙ ap (λ (v : Value). size (dims_of v.ty.shape)) (read_ _)) in
    omega (arith, counted_, c.requires.3)

pub print_dense-p-requires : goal.print_dense-p-requires
unfolding size_at
print_dense-p-requires c =
    let read_ : (d : Value) → get_or c.args.vs.list c.args.i d ≡ get_or c.args.vs.list c.args.i no_value = (λ d. let long : length c.args.vs.list ≡ 264 = c.well_formed.0.1.1.1.1.0.1.0.1 in
    any-default c.args.vs.list c.args.i d no_value (omega (arith, c.requires.0, long))) in
    let counted_ : let a = c.args in c.size_of.result ≡ size_at a.vs a.i = (c.size_of.ensures ∙ ap (λ (v : Value). size (dims_of v.ty.shape)) (read_ _)) in
    let s = c in
    let p = part_length s.args.at c.size_of.result s.args.slots.now (omega (arith, s.requires.3, counted_)) in
    (rw (read_ _) (s.requires.1.sized s.args.i s.requires.0), p ∙ c.size_of.ensures, omega (arith, s.requires.4))

pub returns : goal.returns
unfolding line_of size_at
returns c =
    let read_ : (d : Value) → get_or c.args.vs.list c.args.i d ≡ get_or c.args.vs.list c.args.i no_value = (λ d. let long : length c.args.vs.list ≡ 264 = c.well_formed.0.1.1.1.1.0.1.0.1 in
    any-default c.args.vs.list c.args.i d no_value (omega (arith, c.requires.0, long))) in
    let counted_ : let a = c.args in c.size_of.result ≡ size_at a.vs a.i = (c.size_of.ensures ∙ ap (λ (v : Value). size (dims_of v.ty.shape)) (read_ _)) in
    let s = c in
    let a = s.args in
    let n = dense-small a.vs a.slots.now a.i s.requires.1 s.requires.0 in
    let v = dense-read a.vs a.slots.now a.i a.at _ _ (read_ _) s.requires.2 (counted_) in
    c.put.ensures
    ∙ line-end (dense_of a.vs a.slots.now a.i) a.from a.out.now _ n s.requires.4 (c.print_dense-p.ensures ∙ ap (λ (x : List ℕ). written x a.from a.out.now) v)
