-- A text is written at the start of a slice, and `front_mut` returns that prefix to the caller: steps for proofs by
-- hand.
use Rattle.lexical_num.proofs.Steps.{◌≡◌, refl, sym, ap, ◌∙◌, ℕ, ◌*◌, ◌^◌, ◌<◌, ◌≤◌, List, [], ◌∷◌, ◌++◌, length, take}
use Rattle.lexical_num.proofs.Steps.{Ura, Callee, Place, Opd, Body, named}
use Rattle.lexical_num.proofs.Steps.{seq, call, w64, Val, vint, SProp, emp, id⊢, Lft, Share, ftrue, flft, Memory}
use Rattle.lexical_num.proofs.Steps.{Routine, Env, Calls, Loops, Fun, fact, fact_i}
use Rattle.lexical_num.proofs.Steps.{FmC, Logic, Item, Post, Seq, runs, lands, ‵, raw, ◌⊛◌, some, later, ◌$◌, move}
use Rattle.lexical_num.proofs.Steps.{split, split3, join, fsplit, fjoin, feq_i}
use Rattle.lexical_num.proofs.Steps.{feq_l, flt_i, flt_l, use0, use1, await, pick, drop, rewrite, Opds, u8, mem, MutBor}
use Rattle.lexical_num.proofs.Steps.{MutSlice, slice_val, mut_slice_vals}
use Rattle.lexical_num.proofs.Steps.{nothing, heard, only, calls_at, lasts, triple_of, Contract, Triple}
use native.Mathlib.Omega.{arith}
use lib.ListN.{drop as drop_list}
use denote.Array.{Array}
use denote.Follow.{follows}
use Rattle.std.proofs.lemmas.List.{take_at, drop_at}
use Rattle.lexical_write_integer.specs.Buffer.{Writes}
use Rattle.lexical_write_integer.specs.Lending.{LendsFront}
use Rattle.lexical_write_integer.specs.contracts.buffer.front_mut as P

-- the prefix that is returned, and the machine's value for it
pub record Handed (Is : List ℕ → Type 0) (v : Val) (r : MutBor (List ℕ)) : Type 0 where
  pub word : v ≡ slice_val r.ref_ptr (length r.now)
  pub fits : length r.now < 2 ^ 64
  pub is : Is r.now

module _ {M : Type 1} {𝓤 : Ura M} (𝓛 : Logic 𝓤) (at_mem : Memory → SProp 𝓤) (run : Routine → Fun 𝓤) (κ : Lft)
    (q : Share) (slice : MutBor (List ℕ))
    (ys : List ℕ) (n : ℕ) where
  -- what `front_mut` does
  abbrev Fronts : Contract 𝓤
  Fronts = triple_of 𝓛 P.signature (P.spec 𝓛 at_mem run)

  -- it is called on the slice, which now has ys
  abbrev called : Fronts.Ghost
  called = (
    (
      (κ, tt),
      (q, tt),
      tt,
      (record slice { now = ys }, (n, tt)),
      (mut_slice_vals slice, (vint w64 n ∷ [], tt)),
    ),
    tt,
  )

  module _ {K : Type 0} {Γ : List (Item 𝓤)} {C : Calls 𝓤 𝓛.H} {Λ : Loops 𝓤 𝓛.H} {E : Env 𝓤 𝓛.H} {f : Callee}
      {operands : List Opd} {d : Place} {rest : Body} {Q : Post 𝓤 𝓛.H} where
    -- the call, if the first n bytes of ys are a text that was written
    pub calls_front : K → (Is : List ℕ → Type 0) → FmC 𝓤 𝓛.H 𝓛.laws C → Triple 𝓤 (C f) Fronts
        → Writes Is slice.now ys n → n < 2 ^ 64 → length ys ≡ length slice.now
        → Opds K 𝓛 (raw (Fronts.pre called) ∷ Γ) E operands (Fronts.args called)
        → ((v : Val) (r : MutBor (List ℕ)) → Handed Is v r → Seq K 𝓛
        (‵ ((MutSlice (named 0) κ u8).own_val r (mut_slice_vals r)) ∷ ‵ (flft κ q)
        ∷ ‵ (LendsFront slice (length r.now) r) ∷ Γ)
        (lands C Λ E d v rest Q))
        → Seq K 𝓛 (‵ ((MutSlice (named 0) κ u8).own_val (record slice { now = ys }) (mut_slice_vals slice))
        ∷ ‵ (flft κ q) ∷ Γ)
        (runs C Λ E (seq (call f operands d) rest) Q)
    calls_front t Is fm fronts wrote fits long os k =
        let counted = wrote.count in let fitting = wrote.front.fits in let following_text =
        drop_list (length wrote.text) slice.now in
        flt_i t n (2 ^ 64) fits $ feq_i t (List Val) (vint w64 n ∷ []) (vint w64 n ∷ [])
        refl $ fjoin t $ nothing t $ move t (1 ∷ 0 ∷ []) $ join t $
        move t (1 ∷ 0 ∷ []) $ join t $ nothing t $ move t (2 ∷ 0 ∷ []) $ join t $ join t $
        use0 𝓛 (raw (fact 𝓤 (n ≤ length ys))) (fact_i 𝓤 _ (emp 𝓤) (omega arith)) $ move t (1 ∷ 0 ∷ []) $ join t $
        use1 𝓛 (raw (Fronts.pre called)) (id⊢ 𝓤 _) $
        calls_at t fm Fronts fronts called os (λ v.
        use1 𝓛
        (later
        (some (λ (r : MutBor (List ℕ)). ((‵ (flft κ q) ⊛ ‵ ftrue) ⊛ ‵
        ((MutSlice (named 0) κ u8).own_val r (v ∷ []))) ⊛
        some (λ (us : Unit {0} × (Unit {0} × Unit {0})). ‵ (lasts P.ended called.0.0 called.0.3 us) ⊛
        (‵ (follows (Array u8 0) (Array u8 0) slice.ghost_name r.ghost_name (λ t. t ++ drop_list n ys)) ⊛ raw
        (fact 𝓤 (r.now ≡ take n ys))))))) (id⊢ 𝓤 _) $
        await t tt $ pick t (λ r. split t $ split t $ move t (1 ∷ []) $ fsplit t $ fsplit t $ feq_l t
        (λ is. fsplit t $ flt_l t (λ r₁. flt_l t (λ r₂.
        flt_i t (length r.now * (mem u8).size) (2 ^ 63) r₂ $ flt_i t (length r.now) (2 ^ 64) r₁ $ fjoin t $
        feq_i t (List Val) (mut_slice_vals r) (mut_slice_vals r) refl $ fjoin t $ fjoin t $
        -- [the prefix; the token; what the call ensures]
        move t (2 ∷ []) $ pick t (λ us. split3 t $ move t (2 ∷ []) $ heard t _ (λ taken. drop t $
        let handed : r.now ≡ wrote.text =
        taken ∙ (λ i. take (counted i) (wrote.front.written i))
        ∙ take_at wrote.text following_text (length wrote.text) refl in
        let following : drop_list n ys ≡ drop_list (length r.now) slice.now =
        (λ i. drop_list (counted i) (wrote.front.written i))
        ∙ drop_at wrote.text following_text (length wrote.text) refl
        ∙ ap (λ ts. drop_list (length ts) slice.now) (sym handed) in
        rewrite t 0 (λ (d : List ℕ). ‵ (follows (Array u8 0) (Array u8 0) slice.ghost_name r.ghost_name (λ t. t ++ d)))
        following refl $
        move t (2 ∷ []) $ split t $ move t (1 ∷ []) $ drop t $ move t (2 ∷ 0 ∷ []) $
        k v r (record { word = ap only is; fits = r₁; is = rw handed wrote.is }))))))))
