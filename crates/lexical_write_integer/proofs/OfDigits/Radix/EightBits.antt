-- The digits of a number in radix 2, of which the first are written with zeros after them, and the last then take their
-- place.
use Rattle.std.proofs.lemmas.Grind.{common_steps}
use Rattle.std.proofs.Common.{◌≡◌, ℕ, ◌+◌, ◌-◌, ◌*◌, ◌/◌, ◌%◌, ◌^◌, ◌<◌, ◌≤◌, List, ◌++◌, length, take, drop, map, sym}
use Rattle.std.proofs.Common.{ap, subst, ◌∙◌, append_assoc, arith}
use Rattle.std.proofs.Math.Nat.{div-add-mod', one-le-pow}
use Rattle.std.proofs.lemmas.List.{map-append, length-map, take-append-drop, drop-drop, drop_at}
use Rattle.std.proofs.lemmas.Nat.{pow-add, mul-add-lt, div_below, div-mul-add}
use Rattle.lexical_num.specs.Digit.{digit_char}
use Rattle.lexical_write_integer.specs.Buffer.{WritesBlock}
use Rattle.lexical_write_integer.specs.Numeral.{IsBlockOf}
use Rattle.lexical_write_integer.proofs.Buffers.BlocksAfter.{WritesBlock-after}
use Rattle.lexical_write_integer.proofs.OfDigits.DigitValues.{value_of-append, value_of-lt}
use Rattle.lexical_write_integer.proofs.OfDigits.Radix.Loops.ShortNumbers.{WritesBlock-over}

-- the first digits of a block
IsBlockOf-first : (r k j m : ℕ) (digits : List ℕ) → 2 ≤ r → IsBlockOf r (k + j) m digits
    → IsBlockOf r k (m / r ^ j) (take k digits)
IsBlockOf-first r k j m digits two b =
    let first = take k digits in
    let last = drop k digits in
    let parts : first ++ last ≡ digits = take-append-drop k digits in
    grind (arith, common_steps, value_of-lt, value_of-append, div-mul-add)

-- a buffer that starts with a block starts with the first digits of the block
WritesBlock-already : (r k j m : ℕ) {before after : List ℕ} → 2 ≤ r → WritesBlock r (k + j) m 0 before after
    → WritesBlock r k (m / r ^ j) 0 after after
WritesBlock-already r k j m {before} {after} two w =
    let first = take k w.digits in
    let last = drop k w.digits in
    let rest = drop (0 + (k + j)) before in
    let block = IsBlockOf-first r k j m w.digits two w.block in
    let whole : after ≡ map digit_char first ++ (map digit_char last ++ rest) =
    w.written
    ∙ ap (λ ds. map digit_char ds ++ rest) (sym (take-append-drop k w.digits))
    ∙ ap (λ cs. cs ++ rest) (map-append digit_char first last)
    ∙ append_assoc (map digit_char first) (map digit_char last) rest in
    grind (arith, length-map, drop_at)

-- the first digits are written with zeros after them, `wide` in all, and then the last `taken`
pub WritesBlock-overlap : (n count taken wide : ℕ) {before between after : List ℕ}
    → taken ≤ count → wide ≤ count → count ≤ taken + wide
    → WritesBlock 2 wide (n / 2 ^ taken * 2 ^ (taken + wide - count)) 0 before between
    → WritesBlock 2 taken (n % 2 ^ taken) (count - taken) between after → WritesBlock 2 count n 0 before after
WritesBlock-overlap n count taken wide {before} {between} {after} some more few first last =
    let place = count - taken in
    let j = taken + wide - count in
    let m = n / 2 ^ taken in
    let two : 2 ≤ 2 = omega arith in
    let parts : wide ≡ place + j = omega arith in
    let all : place + taken ≡ count = omega arith in
    let zeros : m * 2 ^ j ≡ m * 2 ^ j + 0 = omega arith in
    let quotient : m * 2 ^ j / 2 ^ j ≡ m = ap (λ e. e / 2 ^ j) zeros
    ∙ div-mul-add m (2 ^ j) 0 (one-le-pow j 2 (omega arith)) in
    let begins : WritesBlock 2 place m 0 between between =
    rw quotient at (WritesBlock-already 2 place j (m * 2 ^ j) two
    (subst (λ e. WritesBlock 2 e (m * 2 ^ j) 0 before between) parts first)) in
    let start : place ≡ 0 + place = omega arith in
    let both : WritesBlock 2 (place + taken) (m * 2 ^ taken + n % 2 ^ taken) 0 between after =
    WritesBlock-after begins (subst (λ e. WritesBlock 2 taken (n % 2 ^ taken) e between after) start last) in
    let whole : WritesBlock 2 count n 0 between after = rw (all, div-add-mod' n (2 ^ taken)) at both in
    let long : length (map digit_char first.digits) ≡ wide = length-map first.digits digit_char ∙ first.block.counted in
    let none : 0 + wide ≡ wide = omega arith in
    let rest : drop wide between ≡ drop wide before =
    ap (drop wide) first.written ∙ drop_at (map digit_char first.digits) (drop (0 + wide) before) wide long
    ∙ ap (λ e. drop e before) none in
    let k = count - wide in
    let order : wide + k ≡ count = omega arith in
    let following : drop count between ≡ drop count before =
    ap (λ e. drop e between) (sym order) ∙ sym (drop-drop k wide between) ∙ ap (drop k) rest ∙ drop-drop k wide before
    ∙ ap (λ e. drop e before) order in
    WritesBlock-over following whole

-- the digits that remain, with zeros after them, have as many digits as are written
pub shifted-lt : (n count taken wide : ℕ) → taken ≤ count → count ≤ taken + wide → n < 2 ^ count
    → n / 2 ^ taken * 2 ^ (taken + wide - count) < 2 ^ wide
shifted-lt n count taken wide some few fits =
    let place = count - taken in
    let k = taken + wide - count in
    let parts : wide ≡ place + k = omega arith in
    let all : count ≡ place + taken = omega arith in
    let whole : 2 ^ wide ≡ 2 ^ place * 2 ^ k = ap (λ e. 2 ^ e) parts ∙ pow-add 2 place k in
    let below : n < 2 ^ place * 2 ^ taken = rw (← pow-add, ← all) fits in
    let less : n / 2 ^ taken < 2 ^ place =
    div_below n (2 ^ taken) (2 ^ place) (one-le-pow taken 2 (omega arith)) below in
    omega (arith, whole, mul-add-lt (n / 2 ^ taken) (2 ^ k) 0 (2 ^ place) less (one-le-pow k 2 (omega arith)))
