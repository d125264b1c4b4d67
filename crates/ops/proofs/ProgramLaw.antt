-- Demand 3 over the ops of paper 01: for an accepted program whose reductions all start from their identity, order and trees do not matter.
-- Assumes nothing.
use mathlib.Core.Path.{◌≡◌, refl, sym, ap, ◌∙◌, subst}
use mathlib.Core.List.{List, [], ◌∷◌, ◌++◌, map}
use mathlib.Core.Option.{some}
use Prim.Native.Nat.{ℕ, zero, suc, ◌+◌, ◌≤◌, ◌<◌}
use native.Mathlib.Nat.{not-suc-le-zero, le_of_suc-le-suc, zero-add}
use native.Mathlib.Omega.{arith}
use lib.ListN.{length, get_or, get_elem?, length-map}
use Rattle.run.specs.Tree.{count_from}
use Rattle.run.specs.Run.{Out, gives, RunProgram}
use Rattle.run.specs.Ways.{by_fold, AllFit, Gathers, Premises, InputsFit, OrderFree}
use Rattle.run.proofs.WaysLaw.{order-free}
use Rattle.element.specs.Types.{SlotHolds}
use Rattle.scalar.specs.Body.{identity_of}
use Rattle.scalar.specs.declared.Body.{Body}
use Rattle.shape.specs.Index.{size}
use Rattle.elementwise.specs.Elementwise.{Tensor, Holds}
use Rattle.ops.specs.declared.Kind.{Kind}
use Rattle.ops.specs.declared.Kind.TheVariants.{Constant, Reduce}
use Rattle.ops.specs.Ops.{TensorType, no_tensor_type, Node, element_of, way_of, row_sizes_of, hlo}
use Rattle.ops.specs.Typed.{NodeGranted, HoldAll, value_type_at, Accepted, StartsAtIdentity}
use Rattle.ops.proofs.OpLaw.{result-holds, gathers-of}

-- list places
get_d_map : {A B : Type 0} (f : A → B) (d : B) (l : List A) (k : ℕ) (a : A) → get_elem? l k ≡ some a → get_or (map f l) k d ≡ f a
get_d_map f d [] k a e = absurd (let z : ◌≡◌ {A = ℕ} 0 1 = cc in omega arith)
get_d_map f d (x ∷ l) zero a e = let z : x ≡ a = cc in ap f z
get_d_map f d (x ∷ l) (suc k) a e = get_d_map f d l k a e

get_d_after : {A : Type 0} (d : A) (l r : List A) (k : ℕ) → get_or (l ++ r) (length l + k) d ≡ get_or r k d
get_d_after d [] r k = ap (λ (i : ℕ). get_or r i d) (zero-add k)
get_d_after d (x ∷ l) r k = ap (λ (i : ℕ). get_or (x ∷ (l ++ r)) i d) (let z : suc (length l) + k ≡ suc (length l + k) = omega arith in z) ∙ get_d_after d l r k

fit_at : {A : Type 0} (Fits : ℕ → A → Type 0) (d : A) (is : List ℕ) (vs : List A) → AllFit Fits is vs → (j : ℕ) → j < length is → Fits (get_or is j 0) (get_or vs j d)
fit_at Fits d [] vs f j h = absurd (not-suc-le-zero h)
fit_at Fits d (i ∷ is) [] f j h = absurd f
fit_at Fits d (i ∷ is) (v ∷ vs) f zero h = f.0
fit_at Fits d (i ∷ is) (v ∷ vs) f (suc j) h = fit_at Fits d is vs f.1 j (le_of_suc-le-suc h)

module _ (types : List TensorType) (p : RunProgram Node) (ac : Accepted types p) where
  abbrev HoldsAt : ℕ → Tensor → Type 0
  HoldsAt i v = Holds (value_type_at types p i).element (size (value_type_at types p i).dims) v

  -- what value i can be: a tensor of its type, and where a constant op defines it that constant
  record Fits (i : ℕ) (v : Tensor) : Type 0 where
    holds : HoldsAt i v
    fixed : (j : ℕ) (c : Node) → get_elem? p.ops j ≡ some c → c.kind ≡ Constant → i ≡ p.inputs + j → v ≡ c.values

  hold-all : (is : List ℕ) (vs : List Tensor) → AllFit Fits is vs → HoldAll (map (value_type_at types p) is) vs
  hold-all [] [] f = tt
  hold-all [] (v ∷ vs) f = absurd f
  hold-all (i ∷ is) [] f = absurd f
  hold-all (i ∷ is) (v ∷ vs) f = (f.0.holds, hold-all is vs f.1)

  result-type : (k : ℕ) (o : Node) → get_elem? p.ops k ≡ some o → value_type_at types p (p.inputs + k) ≡ o.result
  result-type k o e =
      ap (λ (m : ℕ). get_or (types ++ map (λ o. o.result) p.ops) (m + k) no_tensor_type) (sym ac.inputs)
      ∙ get_d_after no_tensor_type types (map (λ o. o.result) p.ops) k ∙ get_d_map (λ o. o.result) no_tensor_type p.ops k o e

  module _ (k : ℕ) (o : Node) (e : get_elem? p.ops k ≡ some o) (args : List Tensor) (f : AllFit Fits o.operands args) where
    operands-hold : HoldAll o.from args
    operands-hold = subst (λ (ts : List TensorType). HoldAll ts args) (sym (ac.written k o e)) (hold-all o.operands args f)

    op_fits : (v : Tensor) → by_fold hlo (way_of o o.kind args) ≡ gives v → Fits (p.inputs + k) v
    op_fits v r =
        record {
          holds = subst (λ (t : TensorType). Holds t.element (size t.dims) v) (sym (result-type k o e))
              (result-holds o args operands-hold o.kind (ac.granted k o e) v r);
          fixed = λ j c q n i. constant j c q n (let z : k ≡ j = omega arith in z);
        }
      where
        constant : (j : ℕ) (c : Node) → get_elem? p.ops j ≡ some c → c.kind ≡ Constant → k ≡ j → v ≡ c.values
        constant j c q n z =
            let same : o ≡ c = let w : get_elem? p.ops k ≡ some c = ap (λ (i : ℕ). get_elem? p.ops i) z ∙ q in cc in
            let is : o.kind ≡ Constant = ap (λ (x : Node). x.kind) same ∙ n in
            let g : ◌≡◌ {A = Out Tensor ℕ} (gives o.values) (gives v) = subst (λ (kind : Kind). by_fold hlo (way_of o kind args) ≡ gives v) is r in
            let w : o.values ≡ v = cc in
            sym w ∙ ap (λ (x : Node). x.values) same

    op-gathers : StartsAtIdentity p → Gathers (SlotHolds (element_of o)) (row_sizes_of o o.kind) (way_of o o.kind args)
    op-gathers st = gathers-of o args operands-hold o.kind (ac.granted k o e) start
      where
        start : (body : Body) → o.kind ≡ Reduce body → get_or (get_or args 1 []) 0 0 ≡ identity_of body (element_of o)
        start body q =
            let s = st k o body e q in
            let g : NodeGranted o (Reduce body) = subst (NodeGranted o) q (ac.granted k o e) in
            let n : 1 < length o.operands =
            omega (arith, g.1.of.there, ap (λ (ts : List TensorType). length ts) (ac.written k o e), length-map o.operands (value_type_at types p)) in
            let c : get_or args 1 [] ≡ s.1.values = (fit_at Fits [] o.operands args f 1 n).fixed s.0 s.1 s.2 s.3 s.4 in
            ap (λ (l : Tensor). get_or l 0 0) c ∙ s.5

  premises : StartsAtIdentity p → Premises hlo p Fits (λ o. SlotHolds (element_of o))
  premises st =
      record {
        scoped = ac.scoped;
        returned = ac.returned;
        fits = λ k o e args f b v r. op_fits k o e args f v r;
        gathers = λ k o e args f b. op-gathers k o e args f st;
        costs = λ k o e args f b v r. omega arith;
        enough = λ k o e args f b c v r h. r;
      }

  -- the inputs
  inputs-fit : (inputs : List Tensor) → HoldAll types inputs → InputsFit p Fits inputs
  inputs-fit inputs h = go 0 p.inputs types inputs h ac.inputs (omega arith) (λ i q. sym (rw zero-add (before types i q)))
    where
      before : (ts : List TensorType) (i : ℕ) → i < length ts → get_or (ts ++ map (λ o. o.result) p.ops) i no_tensor_type ≡ get_or ts i no_tensor_type
      before [] i q = absurd (not-suc-le-zero q)
      before (t ∷ ts) zero q = refl
      before (t ∷ ts) (suc i) q = before ts i (le_of_suc-le-suc q)

      go : (j m : ℕ) (ts : List TensorType) (vs : List Tensor) → HoldAll ts vs → length ts ≡ m → j + m ≤ p.inputs
          → ((i : ℕ) → i < length ts → get_or ts i no_tensor_type ≡ value_type_at types p (j + i)) → AllFit Fits (count_from j m) vs
      go j zero [] [] h e l t = tt
      go j zero [] (v ∷ vs) h e l t = absurd h
      go j zero (u ∷ ts) vs h e l t = absurd (omega arith)
      go j (suc m) [] vs h e l t = absurd (omega arith)
      go j (suc m) (u ∷ ts) [] h e l t = absurd h
      go j (suc m) (u ∷ ts) (v ∷ vs) h e l t = (
        record {
          holds = subst (λ (x : TensorType). Holds x.element (size x.dims) v)
              (t 0 (omega arith) ∙ ap (value_type_at types p) (let z : j + 0 ≡ j = omega arith in z)) h.0;
          fixed = λ i c q n z. absurd (omega arith);
        },
        go (suc j) m ts vs h.1 (omega arith) (omega arith)
            (λ i q. t (suc i) (omega arith) ∙ ap (value_type_at types p) (let z : j + suc i ≡ suc j + i = omega arith in z)),
      )

  -- demand 3
  pub hlo-order-free : StartsAtIdentity p → (inputs : List Tensor) → HoldAll types inputs → (b : ℕ) → OrderFree hlo p inputs b
  hlo-order-free st inputs h b = order-free hlo p Fits (λ o. SlotHolds (element_of o)) (premises st) inputs (inputs-fit inputs h) b
