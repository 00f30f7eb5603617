-- `to_text` writes the text of a part and lends it. The borrow checker shows no write-back clause for a front that is
-- handed back, so this proof walks the code by hand, once for every part.
use Rattle.lexical_num.proofs.Steps.{refl, ap, ℕ, ◌≤◌, List, [], ◌∷◌, length, Val, full_share, emp, id⊢, fact, fact_i}
use Rattle.lexical_num.proofs.Steps.{toks, tables, a_type, named, dcons, dnil}
use Rattle.lexical_num.proofs.Steps.{inst_fn, ftrue, flft, bounded, copied, copied_laws, u8, usize, no, plain, MutSlice}
use Rattle.lexical_num.proofs.Steps.{slice_val, mut_slice_vals}
use Rattle.lexical_num.proofs.Steps.{mut_slice_Tells, ‵, raw, ◌⊛◌, some, later, ◌$◌, ◌∵◌, !, qed, done, move, keep}
use Rattle.lexical_num.proofs.Steps.{drop, split, split3, join, fsplit, fjoin}
use Rattle.lexical_num.proofs.Steps.{feq_l, flt_l, use0, use1, await, pick, suffices, frame, nothing, heard, only, says}
use Rattle.lexical_num.proofs.Steps.{enter, alloc_all, pass_all, sets, addr}
use Rattle.lexical_num.proofs.Steps.{from, fld, hop, stop, look_in_at, sub, whole, agg, and_then, no_more, get, get_in}
use Rattle.lexical_num.proofs.Steps.{lands_as, returns, look_at, free_all}
use Rattle.lexical_num.proofs.Steps.{calls_at, framed, lasts, triple_of, Stays, stay_dropped, Goes-dropped}
use Rattle.lexical_num.proofs.Steps.{Goes-spent_slice, ends_at, proved}
use Rattle.lexical_write_integer.specs.Buffer.{Writes as Written}
use Rattle.lexical_write_integer.proofs.Reborrows.{lends, comes_back}
use Rattle.lexical_write_integer.proofs.HandedFronts.{calls_front}
use Rattle.lexical_write_integer.proofs.Buffers.Prefixes.{Writes-short}
use Rattle.lexical_write_integer.proofs.buffer.front_mut.Met.{met as front_met}
use Rattle.lexical_parts.specs.Utf8.{AreUtf8}
use Rattle.lexical_parts.specs.contracts.part.Part.write_to as W
use Rattle.lexical_parts.specs.contracts.part.Part.to_text as F
use Rattle.lexical_parts.proofs.part.Part.to_text.Statement.{statement}
use Rattle.lexical_parts.proofs.part.Part.to_text.Code as code

pub to_text_spec : {M : Type 1} → statement M
to_text_spec 𝓤 𝓛 𝓜 𝓡 wired X L C g d gc dc writes _ =
    let args = bounded (a_type ∷ []) (X, tt) (dcons d (dcons dc dnil)) in
    let R = copied 0 X in
    let T = F.ended X g d gc dc in
    let c = F.clauses X g d gc dc 𝓛 𝓜.mem 𝓡.returns in
    -- the contract of `write_to`, and the proof of `front_mut`
    let Writes = triple_of 𝓛 (W.signature X) (W.spec X g d gc dc 𝓛 𝓜.mem 𝓡.returns) in
    let fronts = front_met 𝓤 𝓛 𝓜 𝓡 (code.calls-lexical_write_integer::buffer::front_mut 𝓡.env wired) in
    let stayed : Stays T.signature.params T.kept = (stay_dropped _ no, (stay_dropped _ no, tt)) in
    let fm = framed 𝓤 𝓛.H 𝓜 (tables 𝓤 𝓛.H 𝓜 𝓡 𝓡.env) in
    proved 𝓛 T stayed c 𝓜 𝓡 (
      Goes-dropped 𝓛 2 (plain (λ _. R)) no (λ κs x f. refl),
      (Goes-spent_slice 𝓛 2 (0 ∷ []) tt (plain (λ _. u8)), tt),
    )
    (F.Key.name args) (inst_fn args code.function) (code.unfolded 𝓤 𝓛.H 𝓜 𝓡 wired (X, tt) d dc)
    (λ κs. ((λ x. C.val x ∷ []), (mut_slice_vals, tt))) (λ κs. (C.tells, (mut_slice_Tells (named 0) κs.0 u8, tt)))
    (λ κs qs bounds a ghost are.
    let κ = κs.0 in let q = qs.0 in let x = a.0 in let self = a.1.0 in let room = are.1.0.0.1 in
    let words : List Val × (List Val × Unit {0}) = (C.val x ∷ [], (mut_slice_vals self, tt)) in
    -- the length of buffer that the call requires, and what a text of the part is
    let needed = g.room x in
    let Text : List ℕ → Type 0 = g.is_text x in
    let IsUtf8 = g.is_utf8 x → AreUtf8 Text in
    qed 𝓛 (((‵ (flft κ q) ⊛ raw (toks 𝓛 1 κs.1 qs.1)) ⊛
    (‵ (R.own_val x words.0) ⊛ ‵ ((MutSlice (named 0) κ u8).own_val self words.1.0) ⊛ ‵ ftrue))
    ∷ raw ((c κs a).requires tt) ∷ []) ∵ split ! $ split ! $ move ! (2 ∷ []) $ split3 ! $
    -- [the value; the slice; nothing; the token of κ; the other token; what is required]
    enter ! _ _ _ _ _ $ alloc_all ! (λ l.
    pass_all ! refl (
      (((copied_laws 0 X L).lawful 𝓛).typed x words.0 are.0).0,
      ((tt, (tt, (record { fits = room.0 }, tt))), tt),
    ) $
    -- let p = &mut *buffer, with its count
    sets ! (addr ! (from ! (fld ! refl (hop ! (look_in_at ! 2 (sub ! 0 refl (whole !))) (stop !))))) refl (tt, tt) $
    sets !
    (agg ! (and_then ! (get ! refl) (and_then ! (get_in ! (fld ! refl (stop !)) (sub ! 1 refl (whole !)))
    (no_more !)))) refl
    (tt, (tt, (record { fits = room.0 }, tt))) $
    move ! (1 ∷ 3 ∷ []) $ lends 𝓛 u8 (named 0) κ q self ! tt (λ α δ.
    -- [the loan; what the lender keeps; the token of α; the value; nothing; the other token; what is required]
    let z : Writes.Ghost =
    (((α ∷ [], κs.1), (full_share, qs.1), tt, (x, (record self { ghost_name = δ }, tt)), words), tt) in
    move ! (0 ∷ 4 ∷ []) $ join ! $ move ! (3 ∷ 0 ∷ []) $ join ! $ move ! (2 ∷ 3 ∷ []) $ join ! $ join ! $ move !
    (0 ∷ 2 ∷ []) $ join ! $
    use1 𝓛 (raw (Writes.pre z)) (id⊢ 𝓤 _) $
    calls_at ! fm Writes writes.write_to z (and_then ! (get ! refl) (and_then ! (get ! refl) (no_more !))) (λ v.
    use1 𝓛
    (later
    (some (λ (n : ℕ). ((‵ (flft (α ∷ []) full_share) ⊛ raw (toks 𝓛 1 κs.1 qs.1)) ⊛ ‵ (usize.own_val n (v ∷ []))) ⊛
    some (λ (ws : Unit {0} × (List ℕ × Unit {0})). ‵ (lasts (W.ended X g d gc dc) z.0.0 z.0.3 ws) ⊛
    (raw (fact 𝓤 (Written Text self.now ws.1.0 n)) ⊛ raw (fact 𝓤 (n ≤ needed)) ⊛ raw (fact 𝓤 IsUtf8)))))) (id⊢ 𝓤 _) $
    await ! tt $ pick ! (λ n. split ! $ split ! $ split ! $ move ! (2 ∷ []) $ fsplit ! $ feq_l ! (λ is. flt_l ! (λ fits.
    move ! (2 ∷ []) $ pick ! (λ ws. split3 ! $ move ! (1 ∷ []) $ heard ! _ (λ text. move ! (1 ∷ []) $ split ! $
    heard ! _ (λ short. heard ! _ (λ utf8. fsplit ! $ drop ! $ fsplit ! $ move ! (2 ∷ 4 ∷ 0 ∷ []) $ comes_back 𝓛 u8
    (named 0) κ q self ! tt α δ ws.1.0 (λ long.
    -- [the written slice; the token of κ; nothing; the other token]
    lands_as ! (ap only is) refl (tt, record { fits = fits }) $
    sets ! (addr ! (from ! (fld ! refl (hop ! (look_in_at ! 2 (sub ! 0 refl (whole !))) (stop !))))) refl (tt, tt) $
    sets !
    (agg ! (and_then ! (get ! refl) (and_then ! (get_in ! (fld ! refl (stop !)) (sub ! 1 refl (whole !)))
    (no_more !)))) refl
    (tt, (tt, (record { fits = room.0 }, tt))) $
    calls_front 𝓛 𝓜.mem 𝓡.returns κ q self ws.1.0 n ! (λ text. Text text × (length text ≤ needed)) fm fronts
    (Writes-short needed self.now ws.1.0 n text short)
    fits long (and_then ! (get ! refl) (and_then ! (get ! refl) (no_more !))) (λ v' r handed.
    -- [the result; the token of κ; what is borrowed; nothing; the other token]
    lands_as ! handed.word refl (tt, (tt, (record { fits = handed.fits }, tt))) $
    returns ! (look_at ! 0 refl) $ free_all ! refl $
    suffices ! _ (ends_at 𝓛 T stayed c ((κs, qs, bounds, a, words), tt) (slice_val r.ref_ptr (length r.now)) r
    (tt, (tt, tt)) (tt, (tt, tt))) $
    keep ! (1 ∷ 4 ∷ 0 ∷ 2 ∷ []) $ join ! $ nothing ! $ nothing ! $ fjoin ! $ nothing ! $ fjoin ! $ move ! (0 ∷ 2 ∷ [])
    $ join ! $ move ! (1 ∷ []) $ join ! $
    frame ! $ frame ! $ use0 𝓛 (raw (fact 𝓤 (Text r.now))) (fact_i 𝓤 _ (emp 𝓤) handed.is.0) $ frame ! $
    says ! utf8 $ use0 𝓛 (raw (fact 𝓤 (length r.now ≤ needed))) (fact_i 𝓤 _ (emp 𝓤) handed.is.1) $ done !)))))))))))))
