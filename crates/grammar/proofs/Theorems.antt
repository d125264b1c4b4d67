-- The machine against the grammar's derivations, for any symbol that reading starts from.
-- Assumes nothing.
use mathlib.Core.Path.{◌≡◌, subst}
use mathlib.Core.List.{List, [], ◌∷◌, ◌++◌, append-nil, append_assoc}
use Prim.Native.Nat.{ℕ}
use lib.Dec.{T}
use Rattle.grammar.specs.Derivation.{Derives, done, Begins, NoneBegins}
use Rattle.grammar.specs.Machine.{fails, step}
use Rattle.grammar.proofs.CellView.{Ran}
use Rattle.grammar.proofs.Sound as sound
use Rattle.grammar.proofs.Exact as complete

-- where nothing is expected any more, the symbol derives the kinds read
pub accepted : {s : ℕ} {ks : List ℕ} → Ran (s ∷ []) ks [] → Derives (s ∷ []) ks
accepted {s} {ks} r = subst (λ (l : List ℕ). Derives (s ∷ []) l) (append-nil ks) (sound.ran-sound [] r done)

-- the kinds read begin something that the symbol derives
pub viable : {s : ℕ} {ks out : List ℕ} → T (sound.symbols (s ∷ [])) → Ran (s ∷ []) ks out → Begins s ks
viable t r = sound.viable t r

-- where a kind fails, nothing that the symbol derives begins with the kinds read and this one
pub exact : {s : ℕ} {ks out : List ℕ} (k : ℕ) → Ran (s ∷ []) ks out → step out k ≡ fails → NoneBegins s (ks ++ (k ∷ []))
exact k r e = λ ms d. complete.exact k r e ms (rw append_assoc at d)
