-- `join` writes the joined texts and lends them. The borrow checker shows no write-back clause for a front that is
-- returned, so this proof walks the code by hand, once for every type.
use Rattle.lexical_num.proofs.Steps.{◌+◌, ◌-◌, ◌*◌, w8, uint_vals, uint_Tells, shr_slice_of, ShrSlice, shr_slice_vals}
use Rattle.lexical_num.proofs.Steps.{shr_slice_Tells, refl, ap, ℕ, ◌≤◌}
use Rattle.lexical_num.proofs.Steps.{List, [], ◌∷◌, length, Val, full_share, emp, id⊢, fact, fact_i, toks, tables}
use Rattle.lexical_num.proofs.Steps.{a_type, named, dcons, dnil, inst_fn, flft}
use Rattle.lexical_num.proofs.Steps.{bounded, copied, u8, usize, no, plain, MutSlice, slice_val, mut_slice_vals}
use Rattle.lexical_num.proofs.Steps.{mut_slice_Tells, ‵, raw, ◌⊛◌, some, later, ◌$◌}
use Rattle.lexical_num.proofs.Steps.{◌∵◌, !, qed, done, move, keep, drop, split, split3, join, fsplit, fjoin, feq_l}
use Rattle.lexical_num.proofs.Steps.{flt_l, use0, use1, await, pick, suffices}
use Rattle.lexical_num.proofs.Steps.{frame, says, nothing, heard, only, enter, alloc_all, pass_all, sets, addr, from}
use Rattle.lexical_num.proofs.Steps.{fld, hop, stop, look_in_at, sub, whole}
use Rattle.lexical_num.proofs.Steps.{agg, and_then, no_more, get, get_in, lands_as, returns, look_at, free_all}
use Rattle.lexical_num.proofs.Steps.{calls_at, framed, lasts, triple_of, Stays}
use Rattle.lexical_num.proofs.Steps.{stay_dropped, Goes-dropped, Goes-spent_slice, ends_at, proved, param, owns, yes}
use Rattle.lexical_num.proofs.Steps.{shr_ref_to, ShrRef, shr_vals, shr_Tells}
use Rattle.lexical_num.specs.Size.{size_in}
use Rattle.lexical_num.specs.contracts.format.NumberFormat.{the_row as NumberFormat}
use Rattle.lexical_write_integer.specs.Buffer.{Writes as Written}
use Rattle.lexical_write_integer.specs.Sequence.{AreJoined}
use Rattle.lexical_write_integer.specs.Text.{IsText}
use Rattle.lexical_write_integer.proofs.Reborrows.{lends, comes_back}
use Rattle.lexical_write_integer.proofs.HandedFronts.{calls_front}
use Rattle.lexical_write_integer.proofs.Buffers.Prefixes.{Writes-short}
use Rattle.lexical_write_integer.proofs.buffer.front_mut.Met.{met as front_met}
use Rattle.lexical_lines.specs.contracts.joined_text.write_joined as W
use Rattle.lexical_lines.proofs.joined_text.write_joined.Met.{met as write_met}
use Rattle.lexical_lines.specs.contracts.joined_text.join as F
use Rattle.lexical_lines.proofs.joined_text.join.Statement.{statement}
use Rattle.lexical_lines.proofs.joined_text.join.Code as code

pub join_spec : {M : Type 1} → statement M
join_spec 𝓤 𝓛 𝓜 𝓡 wired X Y L LY C g d gl dl gn dn gc dc gs ds gt dt m ml mn mc ms mt =
    let args = bounded (a_type ∷ a_type ∷ []) (X, (Y, tt))
    (dcons d (dcons dl (dcons dn (dcons dc (dcons ds (dcons dt dnil)))))) in
    let R = copied 0 X in let O = param 1 Y in
    let T = F.ended X Y g d gl dl gn dn gc dc gs ds gt dt in
    let c = F.clauses X Y g d gl dl gn dn gc dc gs ds gt dt 𝓛 𝓜.mem 𝓡.returns in
    -- the contract of `write_joined`, and the proofs of it and of `front_mut`
    let Writes = triple_of 𝓛 (W.signature X Y) (W.spec X Y g d gl dl gn dn gc dc gs ds gt dt 𝓛 𝓜.mem 𝓡.returns) in
    let writes = write_met 𝓤 𝓛 𝓜 𝓡 (code.calls-lexical_lines::joined_text::write_joined 𝓡.env wired)
    X Y L LY C g d gl dl gn dn gc dc gs ds gt dt m ml mn mc ms mt in
    let fronts = front_met 𝓤 𝓛 𝓜 𝓡 (code.calls-lexical_write_integer::buffer::front_mut 𝓡.env wired) in
    let stayed : Stays T.signature.params T.kept =
    (stay_dropped _ yes, (stay_dropped _ yes, (stay_dropped _ no, (stay_dropped _ yes, (stay_dropped _ yes, tt))))) in
    let fm = framed 𝓤 𝓛.H 𝓜 (tables 𝓤 𝓛.H 𝓜 𝓡 𝓡.env) in
    proved 𝓛 T stayed c 𝓜 𝓡 (
      Goes-dropped 𝓛 6 (shr_slice_of (0 ∷ []) tt (plain (λ _. R))) yes (λ κs x f. refl),
      (
        Goes-dropped 𝓛 6 (plain (λ _. u8)) yes (λ κs x f. refl),
        (
          Goes-spent_slice 𝓛 6 (1 ∷ []) tt (plain (λ _. u8)),
          (
            Goes-dropped 𝓛 6 (shr_ref_to (2 ∷ []) tt (plain (λ _. NumberFormat))) yes (λ κs x f. refl),
            (Goes-dropped 𝓛 6 (shr_ref_to (3 ∷ []) tt (plain (λ _. O))) yes (λ κs x f. refl), tt),
          ),
        ),
      ),
    )
    (F.Key.name args) (inst_fn args code.function) (code.unfolded 𝓤 𝓛.H 𝓜 𝓡 wired (X, (Y, tt)) d dl dn dc ds dt)
    (λ κs. (shr_slice_vals, (uint_vals w8, (mut_slice_vals, (shr_vals, (shr_vals, tt))))))
    (λ κs. (
      shr_slice_Tells (named 0) κs.0 R,
      (
        uint_Tells w8,
        (
          mut_slice_Tells (named 1) κs.1.0 u8,
          (shr_Tells (named 2) κs.1.1.0 NumberFormat, (shr_Tells (named 3) κs.1.1.1.0 O, tt)),
        ),
      ),
    ))
    (λ κs qs bounds a ghost are.
    let values = a.0 in let separator = a.1.0 in let self = a.1.1.0 in let format = a.1.1.1.0 in let options =
    a.1.1.1.1.0 in
    let κv = κs.0 in let qv = qs.0 in let κ = κs.1.0 in let q = qs.1.0 in let room = are.1.1.0.0.1 in
    let words : List Val × (List Val × (List Val × (List Val × (List Val × Unit {0})))) =
    (shr_slice_vals values, (uint_vals w8 separator, (mut_slice_vals self, (shr_vals format, (shr_vals options, tt)))))
    in
    -- the length of buffer that the call requires, and what a text of the numbers is
    let needed = length values.now * (size_in gs.FORMATTED_SIZE gs.FORMATTED_SIZE_DECIMAL format.now + 1) in
    let Text : List ℕ → Type 0 = AreJoined (λ x. IsText (gn.number x) format.now) (separator ∷ []) values.now in
    qed 𝓛 (((‵ (flft κv qv) ⊛ ‵ (flft κ q) ⊛ raw (toks 𝓛 4 κs.1.1 qs.1.1)) ⊛
    (‵ ((ShrSlice (named 0) κv R).own_val values words.0) ⊛
    ‵ (u8.own_val separator words.1.0) ⊛ ‵ ((MutSlice (named 1) κ u8).own_val self words.1.1.0) ⊛
    ‵ (owns (ShrRef (named 2) κs.1.1.0 NumberFormat ∷ ShrRef (named 3) κs.1.1.1.0 O ∷ []) a.1.1.1 words.1.1.1)))
    ∷ raw ((c κs a).requires tt) ∷ []) ∵
    split ! $ split3 ! $ move ! (3 ∷ []) $ split ! $ move ! (1 ∷ []) $ split3 ! $
    -- [the separator; the slice; the references; the values; the token of κv; the token of κ; the other tokens; what is
    -- required]
    enter ! _ _ _ _ _ $ alloc_all ! (λ l. pass_all ! refl (
      (tt, (tt, (record { fits = are.0.0.1.0 }, tt))),
      ((tt, record { fits = are.1.0.1 }), ((tt, (tt, (record { fits = room.0 }, tt))), ((tt, tt), ((tt, tt), tt)))),
    ) $
    -- let p = &mut *buffer, with its count
    sets ! (addr ! (from ! (fld ! refl (hop ! (look_in_at ! 3 (sub ! 0 refl (whole !))) (stop !))))) refl (tt, tt) $
    sets !
    (agg ! (and_then ! (get ! refl) (and_then ! (get_in ! (fld ! refl (stop !)) (sub ! 1 refl (whole !)))
    (no_more !)))) refl
    (tt, (tt, (record { fits = room.0 }, tt))) $
    move ! (1 ∷ 5 ∷ []) $ lends 𝓛 u8 (named 1) κ q self ! tt (λ α δ.
    -- [the loan; what the lender keeps; the token of α; the separator; the references; the values; the token of κv; the
    -- other tokens; what is required]
    let z : Writes.Ghost = (
      (
        (κv, (α ∷ [], κs.1.1)),
        (qv, (full_share, qs.1.1)),
        bounds,
        (values, (separator, (record self { ghost_name = δ }, a.1.1.1))),
        words,
      ),
      tt,
    ) in
    move ! (0 ∷ 4 ∷ []) $ join ! $ move ! (3 ∷ 0 ∷ []) $ join ! $ move ! (3 ∷ 0 ∷ []) $ join ! $ move !
    (2 ∷ 4 ∷ []) $ join ! $
    move ! (3 ∷ 0 ∷ []) $ join ! $ join ! $ move ! (0 ∷ 2 ∷ []) $ join ! $ use1 𝓛 (raw (Writes.pre z)) (id⊢ 𝓤 _) $
    calls_at ! fm Writes writes z
    (and_then ! (get ! refl) (and_then ! (get ! refl)
    (and_then ! (get ! refl) (and_then ! (get ! refl) (and_then ! (get ! refl) (no_more !)))))) (λ v.
    use1 𝓛
    (later
    (some (λ (n : ℕ). ((‵ (flft κv qv) ⊛ ‵ (flft (α ∷ []) full_share) ⊛ raw (toks 𝓛 4 κs.1.1 qs.1.1)) ⊛ ‵
    (usize.own_val n (v ∷ []))) ⊛
    some (λ (ws : Unit {0} × (Unit {0} × (List ℕ × (Unit {0} × (Unit {0} × Unit {0}))))).
    ‵ (lasts (W.ended X Y g d gl dl gn dn gc dc gs ds gt dt) z.0.0 z.0.3 ws) ⊛
    (raw (fact 𝓤 (Written Text self.now ws.1.1.0 n)) ⊛ raw (fact 𝓤 (n ≤ needed - 1))))))) (id⊢ 𝓤 _) $
    await ! tt $ pick ! (λ n. split ! $ split ! $ split3 ! $ move ! (3 ∷ []) $ fsplit ! $ feq_l !
    (λ is. flt_l ! (λ fits.
    move ! (3 ∷ []) $ pick ! (λ ws. split3 ! $ move ! (1 ∷ []) $ heard ! _
    (λ text. move ! (1 ∷ []) $ heard ! _ (λ short.
    fsplit ! $ drop ! $ fsplit ! $ drop ! $ fsplit ! $ move ! (3 ∷ 5 ∷ 0 ∷ []) $ comes_back 𝓛 u8 (named 1)
    κ q self ! tt α δ ws.1.1.0 (λ long.
    -- [the written slice; the token of κ; the references; the token of κv; the other tokens]
    lands_as ! (ap only is) refl (tt, record { fits = fits }) $
    sets ! (addr ! (from ! (fld ! refl (hop ! (look_in_at ! 3 (sub ! 0 refl (whole !))) (stop !))))) refl (tt, tt) $
    sets !
    (agg ! (and_then ! (get ! refl) (and_then ! (get_in ! (fld ! refl (stop !)) (sub ! 1 refl (whole !)))
    (no_more !)))) refl
    (tt, (tt, (record { fits = room.0 }, tt))) $
    calls_front 𝓛 𝓜.mem 𝓡.returns κ q self ws.1.1.0 n ! (λ text. Text text × (length text ≤ needed - 1)) fm fronts
    (Writes-short (needed - 1) self.now ws.1.1.0 n text short) fits long
    (and_then ! (get ! refl) (and_then ! (get ! refl) (no_more !))) (λ v' r handed.
    -- [the result; the token of κ; what is borrowed; the references; the token of κv; the other tokens]
    lands_as ! handed.word refl (tt, (tt, (record { fits = handed.fits }, tt))) $
    returns ! (look_at ! 0 refl) $ free_all ! refl $
    suffices ! _ (ends_at 𝓛 T stayed c ((κs, qs, bounds, a, words), tt) (slice_val r.ref_ptr (length r.now)) r
    (tt, (tt, (tt, (tt, (tt, tt))))) (tt, (tt, (tt, (tt, (tt, tt)))))) $
    keep ! (1 ∷ 5 ∷ 4 ∷ 0 ∷ 2 ∷ []) $ join ! $ move ! (1 ∷ 0 ∷ []) $ join ! $
    nothing ! $ nothing ! $ fjoin ! $ nothing ! $ fjoin ! $ nothing ! $ fjoin ! $ nothing ! $ fjoin ! $ nothing
    ! $ fjoin ! $
    move ! (0 ∷ 2 ∷ []) $ join ! $ move ! (1 ∷ []) $ join ! $
    frame ! $ frame ! $ says ! handed.is.1 $ use0 𝓛 (raw (fact 𝓤 (Text r.now))) (fact_i 𝓤 _ (emp 𝓤) handed.is.0)
    $ done !))))))))))))
