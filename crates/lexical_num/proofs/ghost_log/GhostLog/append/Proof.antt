-- The body is empty. The proof opens the borrow of the log, and closes it with the numbers of the other log in its
-- list.
use Rattle.lexical_num.proofs.Steps.{refl, List, [], ◌∷◌, ◌++◌, named, Val, vunit, ftrue, flft, toks, ‵, raw, ◌⊛◌, ◌$◌}
use Rattle.lexical_num.proofs.Steps.{◌∵◌, !, qed, done, move, keep, split}
use Rattle.lexical_num.proofs.Steps.{join, fjoin, feq_i, suffices, frame, nothing, says, enter, alloc_all, pass_all}
use Rattle.lexical_num.proofs.Steps.{unit_lit, of_opd, sets, returns, look_at}
use Rattle.lexical_num.proofs.Steps.{free_all, owns, yes, plain, shr_ref_to, ShrRef, shr_vals, shr_Tells, mut_vals}
use Rattle.lexical_num.proofs.Steps.{mut_Tells, Stays}
use Rattle.lexical_num.proofs.Steps.{stay_ref, stay_dropped, Goes-ref, Goes-dropped, ends_at, proved}
use Rattle.lexical_num.proofs.GhostLogs.{Log, becomes}
use Rattle.lexical_num.specs.contracts.ghost_log.GhostLog as T
use Rattle.lexical_num.specs.contracts.ghost_log.GhostLog.append as F
use Rattle.lexical_num.proofs.ghost_log.GhostLog.append.Statement.{statement}
use Rattle.lexical_num.proofs.ghost_log.GhostLog.append.Code as code

abbrev stayed : Stays F.ended.signature.params F.ended.kept
stayed = (stay_ref (0 ∷ []) tt (plain (λ _. T.the_row)), (stay_dropped _ yes, tt))

pub append_spec : {M : Type 1} → statement M
append_spec 𝓤 𝓛 𝓜 𝓡 wired =
    let c = F.clauses 𝓛 𝓜.mem 𝓡.returns in
    proved 𝓛 F.ended stayed c 𝓜 𝓡 (
      Goes-ref 𝓛 2 0 tt (plain (λ _. T.the_row)),
      (Goes-dropped 𝓛 2 (shr_ref_to (1 ∷ []) tt (plain (λ _. T.the_row))) yes (λ κs x f. refl), tt),
    )
    F.Key.name code.function (code.unfolded 𝓤 𝓛.H 𝓜 𝓡 wired)
    (λ κs. (mut_vals, (shr_vals, tt)))
    (λ κs. (mut_Tells (named 0) κs.0 T.the_row, (shr_Tells (named 1) κs.1.0 T.the_row, tt)))
    (λ κs qs bounds a _ are.
    let log = a.0 in let longer = log.now ++ a.1.0.now in
    let words : List Val × (List Val × Unit {0}) = (mut_vals log, (shr_vals a.1.0, tt)) in
    let passed = owns (ShrRef (named 1) κs.1.0 T.the_row ∷ []) a.1 words.1 in
    qed 𝓛 (((‵ (flft κs.0 qs.0) ⊛ raw (toks 𝓛 1 κs.1 qs.1)) ⊛ (‵ (Log κs.0 log) ⊛ ‵ passed)) ∷ ‵ ftrue ∷ []) ∵
    split ! $ split ! $ move ! (2 ∷ []) $ split ! $ keep ! (0 ∷ 2 ∷ 3 ∷ []) $
    -- [the log; the token of κ; the other token]
    enter ! _ _ _ _ _ $ alloc_all ! (λ l. pass_all ! refl ((tt, tt), ((tt, tt), tt)) $
    becomes ! tt log longer $
    sets ! (of_opd ! (unit_lit !)) refl (tt, tt) $ returns ! (look_at ! 0 refl) $ free_all ! refl $
    suffices ! _ (ends_at 𝓛 F.ended stayed c ((κs, qs, bounds, a, words), tt) vunit tt (longer, (tt, tt))
    (tt, (tt, tt))) $ says ! refl $
    move ! (1 ∷ 2 ∷ []) $ join ! $ frame ! $ nothing ! $ nothing ! $ fjoin ! $ move ! (1 ∷ 0 ∷ []) $ fjoin ! $
    feq_i ! (List Val) (vunit ∷ []) (vunit ∷ []) refl $ move ! (1 ∷ 0 ∷ []) $ done !))
