-- The list of a ghost log changes, and nothing else does: a step for proofs by hand.
use Rattle.lexical_num.proofs.Steps.{◌≡◌, refl, ℕ, List, [], ◌∷◌, Ura, named, Val, vptr, Lft, Share, Fml, ftrue, fsep}
use Rattle.lexical_num.proofs.Steps.{flft, Logic, Item, Goal, Soaks, Step}
use Rattle.lexical_num.proofs.Steps.{step, ‵, ◌$◌, move, drop, fsplit3, fjoin3, fpick, fpack, feq_i, MutBor, MutRef}
use Rattle.lexical_num.proofs.Steps.{mut_vals, opens, closes}
use Rattle.lexical_num.specs.declared.ghost_log.GhostLog.TheInside.{Inside}
use Rattle.lexical_num.specs.contracts.ghost_log.GhostLog as T
use Rattle.lexical_num.specs.contracts.ghost_log.GhostLog.TheInside as F

-- the fields that a log hides
abbrev Hidden : List ℕ → Type 0
Hidden xs = (inside : Inside) × ((T.the_view inside ≡ xs) × Unit {0})

-- what a reference to a log owns
abbrev pub Log : Lft → MutBor (List ℕ) → Fml
Log κ log = (MutRef (named 0) κ T.the_row).own_val log (mut_vals log)

module _ {M : Type 1} {𝓤 : Ura M} {𝓛 : Logic 𝓤} {K : Type 0} {Γ : List (Item 𝓤)} {G : Goal 𝓤 𝓛.H} where
  -- after this step the log holds `xs`
  pub becomes : K → Soaks G → {κ : Lft} {q : Share} (log : MutBor (List ℕ)) (xs : List ℕ)
      → Step K 𝓛 (‵ (Log κ (record log { now = xs })) ∷ ‵ (flft κ q) ∷ Γ) G (‵ (Log κ log) ∷ ‵ (flft κ q) ∷ Γ) G
  becomes t soaks log xs =
      let b = log.ref_ptr.0 in let o = log.ref_ptr.1 in
      step (λ s. fsplit3 t $ drop t $ opens t soaks T.the_row b o (λ vs. move t (1 ∷ []) $ fpick t (λ hidden.
      fpack t (Hidden xs) (λ u. fsep (F.the_row.own_val u.0 vs) ftrue) (
        record { marker = hidden.0.marker; notes = xs },
        (refl, tt),
      ) $
      move t (1 ∷ 0 ∷ []) $ closes t soaks T.the_row xs vs b o $
      feq_i t (List Val) (vptr b o ∷ []) (vptr b o ∷ []) refl $ fjoin3 t $ s)))
