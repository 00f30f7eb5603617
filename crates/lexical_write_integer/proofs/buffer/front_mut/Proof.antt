-- `front_mut` returns a borrow of the first bytes of a slice. The borrow checker shows no write-back clause for a
-- part of a slice, so this proof walks the code by hand.
use Rattle.lexical_num.proofs.Steps.{group, split, split3, join, fsplit, fsplit3, fjoin, feq_i, feq_l, use1, use2}
use Rattle.lexical_num.proofs.Steps.{await, pick, suffices, frame, rewrite, whole}
use Rattle.lexical_num.proofs.Steps.{look_in_at, get, sets, Held, Arr, cells, u8, usize, yes, no, mem, uint_vals}
use Rattle.lexical_num.proofs.Steps.{uint_Tells, plain, MutSlice, Room, slice_val}
use Rattle.lexical_num.proofs.Steps.{refl, sym, ap, ℕ, ◌≤◌, List, [], ◌∷◌, ◌++◌, length, take, Ura, named, w64, Val}
use Rattle.lexical_num.proofs.Steps.{ent, sep, Lft, GName, Share, ftrue, flft}
use Rattle.lexical_num.proofs.Steps.{fobs, fbor, Logic, sem, fact, Item, Goal, Soaks, Seq, ‵, raw, ◌⊛◌, some, later}
use Rattle.lexical_num.proofs.Steps.{◌$◌, ◌∵◌, !, qed, done, move, keep, drop}
use Rattle.lexical_num.proofs.Steps.{mut_slice_vals, mut_slice_Tells, nothing, heard, says, Stays, stay_dropped}
use Rattle.lexical_num.proofs.Steps.{Goes-dropped, Goes-spent_slice, ends_at, sub}
use Rattle.lexical_num.proofs.Steps.{agg, enter, stop, fld, hop, from, addr, and_then, no_more, returns, alloc_all}
use Rattle.lexical_num.proofs.Steps.{pass_all, free_all, look_at, proved}
use native.Mathlib.Omega.{arith}
use lib.ListN.{drop as drop_list, take-append-drop, length-append}
use base.Stored.{coded_list}
use types.Follow.{takes_part}
use types.Mut.{open_ref}
use denote.Array.{Array}
use denote.Follow.{follows}
use denote.FollowSlice.{heres_id, slice_of}
use borrow.Table.Elements.{at, cut_app, join_app, length-take-le}
use Rattle.lexical_write_integer.specs.contracts.buffer.front_mut as F
use Rattle.lexical_write_integer.proofs.buffer.front_mut.Statement.{statement}
use Rattle.lexical_write_integer.proofs.buffer.front_mut.Code as code

-- the slice is borrowed for κ, lies at the offset o of the block b, is named γ and holds xs; its first m bytes are
-- returned
module _ {M : Type 1} {𝓤 : Ura M} (𝓛 : Logic 𝓤) (κ : Lft) (q : Share) (b o : ℕ) (γ : GName) (xs : List ℕ) (m : ℕ) where
  abbrev front : List ℕ
  front = take m xs

  abbrev back : List ℕ
  back = drop_list m xs

  -- the slice, if ws was left in its prefix
  abbrev after : List ℕ → List ℕ
  after ws = ws ++ back

  -- the offset of the bytes after the first k
  abbrev past : ℕ → ℕ
  past = at o (mem u8).size

  put : (ws : List ℕ)
      → ent 𝓤 (sep 𝓤 (sem 𝓛 ((Arr (mem u8) (length front)).own_at ws b o))
      (sem 𝓛 (cells (mem u8) back b (past (length front)))))
      (sem 𝓛 ((Arr (mem u8) (length xs)).own_at (after ws) b o))
  put ws =
      let whole_len = length-append front back in
      let now_len = length-append ws back in
      let cut = ap length (take-append-drop m xs) in
      qed 𝓛 (‵ ((Arr (mem u8) (length front)).own_at ws b o) ∷ ‵ (cells (mem u8) back b (past (length front))) ∷ []) ∵
      fsplit ! $ feq_l ! (λ e. move ! (1 ∷ []) $
      rewrite ! 0 (λ (k : ℕ). ‵ (cells (mem u8) back b (past k))) (sym e) refl $ move ! (1 ∷ 0 ∷ []) $
      use2 𝓛 (‵ (cells (mem u8) (after ws) b o)) (join_app 𝓛 (mem u8) ws back b o) $
      feq_i ! ℕ (length (after ws)) (length xs) (omega arith) $ fjoin ! $ done !)

  -- the prefix, whose machine value has the length k, under the name δ
  abbrev Prefix : GName → ℕ → Item 𝓤
  Prefix δ k = ‵ ((MutSlice (named 0) κ u8).own_val (record { ref_ptr = (b, o); ghost_name = δ; now = front })
      (slice_val (b, o) k ∷ []))

  module _ {K : Type 0} {Γ : List (Item 𝓤)} {G : Goal 𝓤 𝓛.H} where
    lends : K → Soaks G → m ≤ length xs → Room u8 (length xs) → {vs : List Val}
        → ((δ : GName) → Seq K 𝓛 (Prefix δ m ∷ ‵ (flft κ q) ∷ ‵ (follows (Array u8 0) (Array u8 0) γ δ after) ∷ Γ) G)
        → Seq K 𝓛 (‵ ((MutSlice (named 0) κ u8).own_val (record { ref_ptr = (b, o); ghost_name = γ; now = xs }) vs)
        ∷ ‵ (flft κ q) ∷ Γ) G
    lends t soaks le room k =
        let count = length-take-le m xs le in
        let code = (coded_list u8.coded).code in
        fsplit3 t $ drop t $ rewrite t 0 (λ (l : List ℕ). ‵ (fobs γ (code l))) (heres_id u8 xs) refl $
        open_ref t soaks (Arr (mem u8) (length xs)) {b = b} {o = o} $ fsplit t $ drop t $
        rewrite t 0 (λ (l : List ℕ). ‵ (cells (mem u8) l b o)) (sym (take-append-drop m xs)) refl $
        use1 𝓛 (‵ (cells (mem u8) front b o) ⊛ ‵ (cells (mem u8) back b (past (length front))))
        (cut_app 𝓛 (mem u8) front back b o) $ split t $
        feq_i t ℕ (length front) (length front) refl $ fjoin t $ move t (2 ∷ 3 ∷ 4 ∷ 0 ∷ 1 ∷ []) $ group t 5 $
        use1 𝓛
        (later (some (λ (δ : GName). ‵ (fobs δ (code front)) ⊛ ‵ (fbor κ (Held (Arr (mem u8) (length front)) b o δ))
        ⊛ ‵ (flft κ q)
        ⊛ ‵ (follows (Array u8 0) (Array u8 0) γ δ after))))
        (takes_part 𝓛 (Arr (mem u8) (length xs)) (Arr (mem u8) (length front)) after κ q b o b o γ
        (sem 𝓛 (cells (mem u8) back b (past (length front)))) put (code xs) (code xs) front) $
        await t soaks $ pick t (λ δ. split3 t $
        use2 𝓛 (Prefix δ (length front)) (slice_of 𝓛 u8 (named 0) κ b o δ front
        (omega (arith, room.0), omega (arith, room.1))) $
        rewrite t 0 (Prefix δ) count refl $ move t (1 ∷ []) $ split t $ move t (2 ∷ []) $ k δ)

abbrev stayed : Stays F.ended.signature.params F.ended.kept
stayed = (stay_dropped _ no, (stay_dropped _ yes, tt))

pub front_mut_spec : {M : Type 1} → statement M
front_mut_spec 𝓤 𝓛 𝓜 𝓡 wired =
    let c = F.clauses 𝓛 𝓜.mem 𝓡.returns in
    proved 𝓛 F.ended stayed c 𝓜 𝓡 (
      Goes-spent_slice 𝓛 1 (0 ∷ []) tt (plain (λ _. u8)),
      (Goes-dropped 𝓛 1 (plain (λ _. usize)) yes (λ κs x f. refl), tt),
    )
    F.Key.name code.function (code.unfolded 𝓤 𝓛.H 𝓜 𝓡 wired)
    (λ κs. (mut_slice_vals, (uint_vals w64, tt))) (λ κs. (mut_slice_Tells (named 0) κs.0 u8, (uint_Tells w64, tt)))
    (λ κs qs bounds a ghost are.
    let slice = a.0 in let m = a.1.0 in let room = are.0.0.1 in
    let words : List Val × (List Val × Unit {0}) = (mut_slice_vals slice, (uint_vals w64 m, tt)) in
    qed 𝓛
    (((‵ (flft κs.0 qs.0) ⊛ ‵ ftrue) ⊛ (‵ ((MutSlice (named 0) κs.0 u8).own_val slice words.0) ⊛
    (‵ (usize.own_val m words.1.0) ⊛ ‵ ftrue))) ∷
    raw (fact 𝓤 (m ≤ length slice.now)) ∷ []) ∵ move ! (1 ∷ []) $ heard ! _
    (λ le. split ! $ split ! $ move ! (2 ∷ []) $ split ! $ move ! (0 ∷ 2 ∷ []) $
    enter ! _ _ _ _ _ $
    alloc_all ! (λ l. pass_all ! refl (
      (tt, (tt, (record { fits = room.0 }, tt))),
      ((tt, record { fits = are.1.0.1 }), tt),
    ) $
    sets ! (addr ! (from ! (fld ! refl (hop ! (look_in_at ! 1 (sub ! 0 refl (whole !))) (stop !))))) refl (tt, tt) $
    sets ! (agg ! (and_then ! (get ! refl) (and_then ! (get ! refl) (no_more !)))) refl
    (tt, (tt, (record { fits = are.1.0.1 }, tt))) $
    lends 𝓛 κs.0 qs.0 slice.ref_ptr.0 slice.ref_ptr.1 slice.ghost_name slice.now m ! tt le room (λ δ.
    -- [the prefix; the token; what is borrowed; what the number owns]
    returns ! (look_at ! 0 refl) $ free_all ! refl $ keep ! (0 ∷ 1 ∷ 2 ∷ []) $
    suffices ! _ (ends_at 𝓛 F.ended stayed c ((κs, qs, bounds, a, words), tt) (slice_val slice.ref_ptr m)
    (record slice { ghost_name = δ; now = take m slice.now }) (tt, (tt, tt)) (tt, (tt, tt))) $
    nothing ! $ nothing ! $ fjoin ! $ nothing ! $ fjoin ! $ join ! $ move ! (1 ∷ 3 ∷ [])
    $ join ! $ join ! $ frame ! $ says ! refl $ done !))))
