-- `to_lexical_with_options` writes the text of a number and returns a borrow of it. The borrow checker proves no
-- write-back clause for a borrow that is passed on, so this proof goes through the code by hand, once for all types.
-- `X` is the type of the number, and `Y` that of the options. The names that begin with `g`, `d` and `m` are of the
-- traits that these types implement: the ghost members, the functions, and that the functions meet their contracts.
use Rattle.lexical_num.proofs.Steps.{refl, ap, ℕ, ◌≤◌, List, [], ◌∷◌, length, take, Val, full_share, emp, id⊢, fact}
use Rattle.lexical_num.proofs.Steps.{fact_i, toks, tables, a_type, named, dcons}
use Rattle.lexical_num.proofs.Steps.{dnil, inst_fn, flft, bounded, copied, copied_laws, u8, usize, no, plain, MutSlice}
use Rattle.lexical_num.proofs.Steps.{slice_val, mut_slice_vals}
use Rattle.lexical_num.proofs.Steps.{mut_slice_Tells, ‵, raw, ◌⊛◌, some, later, ◌$◌, ◌∵◌, !, qed, done, move, keep}
use Rattle.lexical_num.proofs.Steps.{drop, split, split3, join, fsplit, fjoin}
use Rattle.lexical_num.proofs.Steps.{feq_l, flt_l, use0, use1, await, pick, suffices, frame, nothing, heard, only}
use Rattle.lexical_num.proofs.Steps.{enter, alloc_all, pass_all, sets, addr, from}
use Rattle.lexical_num.proofs.Steps.{fld, hop, stop, look_in_at, sub, whole, agg, and_then, no_more, get, get_in}
use Rattle.lexical_num.proofs.Steps.{lands_as, returns, look_at, free_all}
use Rattle.lexical_num.proofs.Steps.{calls_at, framed, lasts, triple_of, Stays, stay_dropped, Goes-dropped}
use Rattle.lexical_num.proofs.Steps.{Goes-spent_slice, ends_at, proved, param, owns, yes}
use Rattle.lexical_num.proofs.Steps.{shr_ref_to, ShrRef, shr_vals, shr_Tells}
use Rattle.lexical_num.specs.Format.{without_groups}
use Rattle.lexical_num.specs.contracts.format.NumberFormat.{the_row as NumberFormat}
use Rattle.lexical_write_integer.specs.Buffer.{Writes as Written}
use Rattle.lexical_write_integer.specs.Groups.{without_separators}
use Rattle.lexical_write_integer.specs.Text.{IsText, need}
use Rattle.lexical_write_integer.proofs.Reborrows.{lends, comes_back}
use Rattle.lexical_write_integer.proofs.HandedFronts.{calls_front}
use Rattle.lexical_write_integer.proofs.Buffers.Prefixes.{Writes-short, Writes-and}
use Rattle.lexical_write_integer.specs.contracts.texts.to_lexical.ToLexicalWithOptions.write_lexical_with_options as W
use Rattle.lexical_write_integer.proofs.texts.to_lexical.ToLexicalWithOptions.write_lexical_with_options.Met.{met as write_met}
use Rattle.lexical_write_integer.proofs.buffer.front_mut.Met.{met as front_met}
use Rattle.lexical_write_integer.specs.contracts.texts.to_lexical.ToLexicalWithOptions.to_lexical_with_options as F
use Rattle.lexical_write_integer.proofs.texts.to_lexical.ToLexicalWithOptions.to_lexical_with_options.Statement.{statement}
use Rattle.lexical_write_integer.proofs.texts.to_lexical.ToLexicalWithOptions.to_lexical_with_options.Code as code

pub to_lexical_with_options_spec : {M : Type 1} → statement M
to_lexical_with_options_spec 𝓤 𝓛 𝓜 𝓡 wired X Y L LY C g d gl dl gn dn gc dc gs ds gt dt m ml mn mc ms mt =
    let args = bounded (a_type ∷ a_type ∷ []) (X, (Y, tt))
    (dcons d (dcons dl (dcons dn (dcons dc (dcons ds (dcons dt dnil)))))) in
    let R = copied 0 X in let O = param 1 Y in
    let T = F.ended X Y g d gl dl gn dn gc dc gs ds gt dt in
    let c = F.clauses X Y g d gl dl gn dn gc dc gs ds gt dt 𝓛 𝓜.mem 𝓡.returns in
    -- the contract of `write_lexical_with_options`, and the proofs of it and of `front_mut`
    let Writes = triple_of 𝓛 (W.signature X Y) (W.spec X Y g d gl dl gn dn gc dc gs ds gt dt 𝓛 𝓜.mem 𝓡.returns) in
    let writes =
    write_met 𝓤 𝓛 𝓜 𝓡
    (code.calls-lexical_write_integer::texts::to_lexical::ToLexicalWithOptions::write_lexical_with_options 𝓡.env
    wired)
    X Y L LY C g d gl dl gn dn gc dc gs ds gt dt m ml mn mc ms mt in
    let fronts = front_met 𝓤 𝓛 𝓜 𝓡 (code.calls-lexical_write_integer::buffer::front_mut 𝓡.env wired) in
    let stayed : Stays T.signature.params T.kept =
    (stay_dropped _ no, (stay_dropped _ no, (stay_dropped _ yes, (stay_dropped _ yes, tt)))) in
    let fm = framed 𝓤 𝓛.H 𝓜 (tables 𝓤 𝓛.H 𝓜 𝓡 𝓡.env) in
    proved 𝓛 T stayed c 𝓜 𝓡 (
      Goes-dropped 𝓛 5 (plain (λ _. R)) no (λ κs x f. refl),
      (
        Goes-spent_slice 𝓛 5 (0 ∷ []) tt (plain (λ _. u8)),
        (
          Goes-dropped 𝓛 5 (shr_ref_to (1 ∷ []) tt (plain (λ _. NumberFormat))) yes (λ κs x f. refl),
          (Goes-dropped 𝓛 5 (shr_ref_to (2 ∷ []) tt (plain (λ _. O))) yes (λ κs x f. refl), tt),
        ),
      ),
    )
    (F.Key.name args) (inst_fn args code.function) (code.unfolded 𝓤 𝓛.H 𝓜 𝓡 wired (X, (Y, tt)) d dl dn dc ds dt)
    (λ κs. ((λ x. C.val x ∷ []), (mut_slice_vals, (shr_vals, (shr_vals, tt)))))
    (λ κs. (
      C.tells,
      (
        mut_slice_Tells (named 0) κs.0 u8,
        (shr_Tells (named 1) κs.1.0 NumberFormat, (shr_Tells (named 2) κs.1.1.0 O, tt)),
      ),
    ))
    (λ κs qs bounds a ghost are.
    let κ = κs.0 in let q = qs.0 in let x = a.0 in let self = a.1.0 in let format = a.1.1.0 in let options =
    a.1.1.1.0 in let room = are.1.0.0.1 in
    let words : List Val × (List Val × (List Val × (List Val × Unit {0}))) =
    (C.val x ∷ [], (mut_slice_vals self, (shr_vals format, (shr_vals options, tt)))) in
    -- the length of buffer that the call requires, and what a text of the number is, with its marks and without
    let needed = need (gn.number x) gn.DECIMAL_WIDTH format.now in
    let Text : List ℕ → Type 0 = IsText (gn.number x) format.now in
    let Plain : List ℕ → Type 0 = λ text. IsText (gn.number x) (without_groups format.now)
    (without_separators format.now.digit_grouping text) in
    qed 𝓛 (((‵ (flft κ q) ⊛ raw (toks 𝓛 4 κs.1 qs.1)) ⊛
    (‵ (R.own_val x words.0) ⊛ ‵ ((MutSlice (named 0) κ u8).own_val self words.1.0) ⊛
    ‵ (owns (ShrRef (named 1) κs.1.0 NumberFormat ∷ ShrRef (named 2) κs.1.1.0 O ∷ []) a.1.1 words.1.1)))
    ∷ raw ((c κs a).requires tt) ∷ []) ∵
    split ! $ split ! $ move ! (2 ∷ []) $ split3 ! $
    -- [the value; the slice; the references; the token of κ; the other tokens; what is required]
    enter ! _ _ _ _ _ $ alloc_all ! (λ l. pass_all ! refl (
      (((copied_laws 0 X L).lawful 𝓛).typed x words.0 are.0).0,
      ((tt, (tt, (record { fits = room.0 }, tt))), ((tt, tt), ((tt, tt), tt))),
    ) $
    -- let p = &mut *buffer, with its count
    sets ! (addr ! (from ! (fld ! refl (hop ! (look_in_at ! 2 (sub ! 0 refl (whole !))) (stop !))))) refl (tt, tt) $
    sets !
    (agg ! (and_then ! (get ! refl) (and_then ! (get_in ! (fld ! refl (stop !)) (sub ! 1 refl (whole !)))
    (no_more !)))) refl
    (tt, (tt, (record { fits = room.0 }, tt))) $
    move ! (1 ∷ 3 ∷ []) $ lends 𝓛 u8 (named 0) κ q self ! tt (λ α δ.
    -- [the loan; what the lender keeps; the token of α; the value; the references; the other tokens; what is required]
    let z : Writes.Ghost =
    (((α ∷ [], κs.1), (full_share, qs.1), bounds, (x, (record self { ghost_name = δ }, a.1.1)), words), tt) in
    move ! (0 ∷ 4 ∷ []) $ join ! $ move ! (3 ∷ 0 ∷ []) $ join ! $ move ! (2 ∷ 3 ∷ []) $ join ! $ join ! $ move !
    (0 ∷ 2 ∷ []) $ join ! $
    use1 𝓛 (raw (Writes.pre z)) (id⊢ 𝓤 _) $
    calls_at ! fm Writes writes z (and_then ! (get ! refl)
    (and_then ! (get ! refl) (and_then ! (get ! refl) (and_then ! (get ! refl) (no_more !))))) (λ v.
    use1 𝓛
    (later
    (some (λ (n : ℕ). ((‵ (flft (α ∷ []) full_share) ⊛ raw (toks 𝓛 4 κs.1 qs.1)) ⊛ ‵ (usize.own_val n (v ∷ []))) ⊛
    some (λ (ws : Unit {0} × (List ℕ × (Unit {0} × (Unit {0} × Unit {0})))). ‵
    (lasts (W.ended X Y g d gl dl gn dn gc dc gs ds gt dt) z.0.0 z.0.3 ws) ⊛
    (raw (fact 𝓤 (Written Text self.now ws.1.0 n)) ⊛ raw (fact 𝓤 (n ≤ needed)) ⊛ raw
    (fact 𝓤 (Plain (take n ws.1.0)))))))) (id⊢ 𝓤 _) $
    await ! tt $ pick ! (λ n. split ! $ split ! $ split ! $ move ! (2 ∷ []) $ fsplit ! $ feq_l ! (λ is. flt_l ! (λ fits.
    move ! (2 ∷ []) $ pick ! (λ ws. split ! $ move ! (1 ∷ []) $ split3 ! $ heard ! _
    (λ text. heard ! _ (λ short. heard ! _ (λ plain.
    fsplit ! $ drop ! $ fsplit ! $ move ! (2 ∷ 4 ∷ 0 ∷ []) $ comes_back 𝓛 u8 (named 0) κ q self ! tt α δ ws.1.0 (λ long.
    -- [the written slice; the token of κ; the references; the other tokens]
    lands_as ! (ap only is) refl (tt, record { fits = fits }) $
    sets ! (addr ! (from ! (fld ! refl (hop ! (look_in_at ! 2 (sub ! 0 refl (whole !))) (stop !))))) refl (tt, tt) $
    sets !
    (agg ! (and_then ! (get ! refl) (and_then ! (get_in ! (fld ! refl (stop !)) (sub ! 1 refl (whole !)))
    (no_more !)))) refl
    (tt, (tt, (record { fits = room.0 }, tt))) $
    calls_front 𝓛 𝓜.mem 𝓡.returns κ q self ws.1.0 n ! (λ text. (Text text × (length text ≤ needed))
    × Plain text) fm fronts
    (Writes-and self.now ws.1.0 n (Writes-short needed self.now ws.1.0 n text short) plain)
    fits long (and_then ! (get ! refl) (and_then ! (get ! refl) (no_more !))) (λ v' r handed.
    -- [the result; the token of κ; what is borrowed; the references; the other tokens]
    lands_as ! handed.word refl (tt, (tt, (record { fits = handed.fits }, tt))) $
    returns ! (look_at ! 0 refl) $ free_all ! refl $
    suffices ! _ (ends_at 𝓛 T stayed c ((κs, qs, bounds, a, words), tt) (slice_val r.ref_ptr (length r.now)) r
    (tt, (tt, (tt, (tt, tt)))) (tt, (tt, (tt, (tt, tt))))) $
    keep ! (1 ∷ 4 ∷ 0 ∷ 2 ∷ []) $ join ! $ nothing ! $ nothing ! $ fjoin ! $ nothing ! $ fjoin ! $ nothing ! $ fjoin ! $
    nothing ! $ fjoin ! $
    move ! (0 ∷ 2 ∷ []) $ join ! $ move ! (1 ∷ []) $ join ! $ frame ! $ frame ! $ use0 𝓛 (raw (fact 𝓤 (Plain r.now)))
    (fact_i 𝓤 _ (emp 𝓤) handed.is.1) $
    use0 𝓛 (raw (fact 𝓤 (length r.now ≤ needed))) (fact_i 𝓤 _ (emp 𝓤) handed.is.0.1) $
    use0 𝓛 (raw (fact 𝓤 (Text r.now))) (fact_i 𝓤 _ (emp 𝓤) handed.is.0.0) $ done !)))))))))))))
