use mathlib.Core.Path.{◌≡◌, sym, ap, ◌∙◌, subst}
use native.Mathlib.Omega.{arith}
use Rattle.maps.specs.declared.Kind.{Kind}
use Rattle.shape.specs.Index.{at}
use Rattle.maps.specs.Formulas.{broadcast_coord}
use Rattle.maps.specs.Kinds.{coord_by, ComputesBy}
use borrow.Author.Rules.{rules}
use Rattle.maps.proofs.coordinate.Goals as goal

pub overflow_mul-result : goal.overflow_mul-result
overflow_mul-result c =
    let computes_ : (k : Kind) → c.args.m.kind ≡ k → ComputesBy k c.args.m.a c.args.m.b c.args.n (at c.args.index) c.args.d = (λ k e. subst (λ (j : Kind). ComputesBy j c.args.m.a c.args.m.b c.args.n (at c.args.index) c.args.d) e c.requires.2) in
    omega (arith, computes_ _ c.in-Slice.is)

pub overflow_add-result : goal.overflow_add-result
overflow_add-result c =
    let computes_ : (k : Kind) → c.args.m.kind ≡ k → ComputesBy k c.args.m.a c.args.m.b c.args.n (at c.args.index) c.args.d = (λ k e. subst (λ (j : Kind). ComputesBy j c.args.m.a c.args.m.b c.args.n (at c.args.index) c.args.d) e c.requires.2) in
    omega (arith, computes_ _ c.in-Slice.is)

pub reverse_coordinate-requires : goal.reverse_coordinate-requires
reverse_coordinate-requires c =
    let computes_ : (k : Kind) → c.args.m.kind ≡ k → ComputesBy k c.args.m.a c.args.m.b c.args.n (at c.args.index) c.args.d = (λ k e. subst (λ (j : Kind). ComputesBy j c.args.m.a c.args.m.b c.args.n (at c.args.index) c.args.d) e c.requires.2) in
    (search rules, computes_ _ c.in-Reverse.is)

pub pad_coordinate-requires : goal.pad_coordinate-requires
pad_coordinate-requires c =
    let computes_ : (k : Kind) → c.args.m.kind ≡ k → ComputesBy k c.args.m.a c.args.m.b c.args.n (at c.args.index) c.args.d = (λ k e. subst (λ (j : Kind). ComputesBy j c.args.m.a c.args.m.b c.args.n (at c.args.index) c.args.d) e c.requires.2) in
    computes_ _ c.in-Pad.is

pub returns-in-Transpose : goal.returns-in-Transpose
returns-in-Transpose c =
    let by_kind_ : (k : Kind) → c.args.m.kind ≡ k → coord_by k c.args.m.a c.args.m.b c.args.m.count c.args.n (at c.args.index) c.args.d ≡ coord_by c.args.m.kind c.args.m.a c.args.m.b c.args.m.count c.args.n (at c.args.index) c.args.d = (λ k e. ap (λ (j : Kind). coord_by j c.args.m.a c.args.m.b c.args.m.count c.args.n (at c.args.index) c.args.d) (sym e)) in
    c.at_or_zero.ensures ∙ ap (at c.args.index) (c.unwrap_or.ensures ∙ c.place_in.ensures.place) ∙ by_kind_ _ c.in-Transpose.is

pub returns-in-Slice : goal.returns-in-Slice
returns-in-Slice c =
    let by_kind_ : (k : Kind) → c.args.m.kind ≡ k → coord_by k c.args.m.a c.args.m.b c.args.m.count c.args.n (at c.args.index) c.args.d ≡ coord_by c.args.m.kind c.args.m.a c.args.m.b c.args.m.count c.args.n (at c.args.index) c.args.d = (λ k e. ap (λ (j : Kind). coord_by j c.args.m.a c.args.m.b c.args.m.count c.args.n (at c.args.index) c.args.d) (sym e)) in
    by_kind_ _ c.in-Slice.is

pub returns-in-Reverse : goal.returns-in-Reverse
returns-in-Reverse c =
    let by_kind_ : (k : Kind) → c.args.m.kind ≡ k → coord_by k c.args.m.a c.args.m.b c.args.m.count c.args.n (at c.args.index) c.args.d ≡ coord_by c.args.m.kind c.args.m.a c.args.m.b c.args.m.count c.args.n (at c.args.index) c.args.d = (λ k e. ap (λ (j : Kind). coord_by j c.args.m.a c.args.m.b c.args.m.count c.args.n (at c.args.index) c.args.d) (sym e)) in
    c.reverse_coordinate.ensures ∙ by_kind_ _ c.in-Reverse.is

pub returns-in-Broadcast : goal.returns-in-Broadcast
returns-in-Broadcast c =
    let by_kind_ : (k : Kind) → c.args.m.kind ≡ k → coord_by k c.args.m.a c.args.m.b c.args.m.count c.args.n (at c.args.index) c.args.d ≡ coord_by c.args.m.kind c.args.m.a c.args.m.b c.args.m.count c.args.n (at c.args.index) c.args.d = (λ k e. ap (λ (j : Kind). coord_by j c.args.m.a c.args.m.b c.args.m.count c.args.n (at c.args.index) c.args.d) (sym e)) in
    c.broadcast_coordinate.ensures ∙ ap (broadcast_coord c.args.n) c.at_or_zero-in-Broadcast.ensures ∙ by_kind_ _ c.in-Broadcast.is

pub returns-in-Pad : goal.returns-in-Pad
returns-in-Pad c =
    let by_kind_ : (k : Kind) → c.args.m.kind ≡ k → coord_by k c.args.m.a c.args.m.b c.args.m.count c.args.n (at c.args.index) c.args.d ≡ coord_by c.args.m.kind c.args.m.a c.args.m.b c.args.m.count c.args.n (at c.args.index) c.args.d = (λ k e. ap (λ (j : Kind). coord_by j c.args.m.a c.args.m.b c.args.m.count c.args.n (at c.args.index) c.args.d) (sym e)) in
    c.unwrap_or-in-Pad.ensures ∙ c.pad_coordinate.ensures c.args.n ∙ by_kind_ _ c.in-Pad.is
