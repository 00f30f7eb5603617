use Rattle.std.proofs.Common.{◌≡◌, ◌≢◌, ℕ, ◌+◌, ◌-◌, ◌<◌, ◌≤◌, List, length, get_or, take, drop, subst, arith}
use Rattle.std.proofs.Common.{length-drop, length-take-le, take-add}
use Rattle.std.proofs.lemmas.List.{get_or-take, get_or-drop, get_or_past, length-take, take-take}
use Rattle.std.proofs.lemmas.List.Elements.{All-append}
use Rattle.std.proofs.lemmas.Nat.{le_bytes_8}
use Rattle.std.proofs.lemmas.Bool.{cases_lt}
use Rattle.std.specs.Int.{to_le_bytes, w64}
use Rattle.lexical_lines.specs.Lines.{IsFirstNewline, NoNewline}
use Rattle.lexical_lines.proofs.answer.newline.first_newline.Goals as goal
use Rattle.lexical_lines.proofs.answer.newline.first_newline.Goals.{After-newline_in}

-- the next bytes have no newline before theirs
none_before : (bytes : List ℕ) (start count : ℕ) → NoNewline (take start bytes)
    → NoNewline (take count (drop start bytes))
    → NoNewline (take (start + count) bytes)
none_before bytes start count before next =
    rw take-add (All-append (λ byte. byte ≢ 10) (take start bytes) (take count (drop start bytes)) before next)

behind : (bytes : List ℕ) (start index : ℕ) → start + 8 ≤ length bytes → NoNewline (take start bytes)
    → IsFirstNewline (take 8 (drop start bytes)) index → IsFirstNewline bytes (start + index)
behind bytes start index fits before first =
    let long = length-take-le 8 (drop start bytes) (omega (arith, length-drop start bytes)) in
    let within : index < 8 = omega (arith, first.within, long) in
    record {
      within = omega arith;
      newline = grind (arith, get_or-take, get_or-drop, first.newline);
      before = none_before bytes start index before
          (rw (take-take index 8 (drop start bytes) (omega arith)) at first.before);
    }

byte : (bytes : List ℕ) (start i : ℕ) → ((k : ℕ) → get_or bytes k 0 < 256)
    → get_or (take 8 (drop start bytes)) i 0 < 256
byte bytes start i small = grind (
  arith,
  get_or-take,
  get_or-drop,
  get_or_past,
  length-take,
  cases_lt i 8,
  small (start + i),
)

-- the word that is searched
word_is : (c : After-newline_in) → to_le_bytes w64 c.from_le_bytes.result
    ≡ take 8 (drop c.loop-start.start c.args.bytes.now)
word_is c =
    let bytes = c.args.bytes.now in
    let start = c.loop-start.start in
    let eight : start + 8 - start ≡ 8 = omega arith in
    let same : c.copy_from_slice.new.self ≡ take 8 (drop start bytes) = rw eight at c.copy_from_slice.ensures.after in
    let long = length-take-le 8 (drop start bytes) (omega (arith, c.loop-start-test.true, length-drop start bytes)) in
    le_bytes_8 _ _ long (λ i. byte bytes start i (λ k. (c.type_inv.bytes k).fits)) (rw same at c.from_le_bytes.ensures)

pub returns-in-Some-clause-found : goal.returns-in-Some-clause-found
returns-in-Some-clause-found c =
    let word = word_is (goal.at.returns-in-Some-clause-found c).After-newline_in in
    behind c.args.bytes.now c.loop-start.start c.in-Some.index (omega (arith, c.loop-start-test.true))
    c.loop-start.invariant.before
    (rw word at c.in-Some.ensures.found)

pub loop-start-preserved : goal.loop-start-preserved
loop-start-preserved c =
    let word = word_is (goal.at.loop-start-preserved c).After-newline_in in
    let next = none_before c.args.bytes.now c.loop-start.start 8 c.loop-start.invariant.before
    (subst NoNewline word c.in_default.ensures.none) in
    record { within = omega (arith, c.loop-start-test.true); before = next }
