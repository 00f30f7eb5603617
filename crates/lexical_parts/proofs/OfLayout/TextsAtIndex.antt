-- Texts at an index of a buffer.
use Rattle.std.proofs.Common.{◌≡◌, ℕ, ◌+◌, ◌-◌, ◌≤◌, List, ◌++◌, length, take, drop, slice_range, refl, sym, ap, ◌∙◌}
use Rattle.std.proofs.Common.{arith, length-append, append_assoc}
use Rattle.std.proofs.lemmas.List.{take_at, take_all, drop_at, length-take-le, length-drop, take-append-drop}
use Rattle.lexical_write_integer.specs.Buffer.{Front, Writes}
use Rattle.lexical_write_integer.specs.Sequence.{IsExactly, Then}
use Rattle.lexical_write_integer.specs.Padded.{IsPadded}
use Rattle.lexical_write_integer.proofs.Buffers.Prefixes.{Writes-after, Writes-is}
use Rattle.lexical_parts.specs.Fields.{bytes_between}
use borrow.Rule.Slice.PartMut.{mid_of, put_mid}

-- what is written to the k bytes at index a is a text after the first a bytes
pub Writes-at : {Is : List ℕ → Type 0} (a k : ℕ) (xs ys : List ℕ) (count : ℕ) → a ≤ length xs
    → Writes Is (mid_of a k xs) ys count
    → Writes (Then (IsExactly (take a xs)) Is) xs (put_mid a k xs ys) (a + count)
Writes-at {Is} a k xs ys count inside w =
    let long : length (take a xs) ≡ a = length-take-le a xs inside in
    let front : Front xs xs (take a xs) = record {
      fits = omega (arith, long);
      written = sym (take-append-drop a xs) ∙ ap (λ n. take a xs ++ drop n xs) (sym long);
    } in
    Writes-after {IsAfter = Is} {IsWhole = Then (IsExactly (take a xs)) Is} (take a xs) xs xs ys a k count
    (sym long) front
    (λ following is. record { first = take a xs; second = following; is_first = refl; is_second = is; whole = refl }) w

module _ {Is : List ℕ → Type 0} (a : ℕ) (xs zs : List ℕ) (end : ℕ) (inside : a ≤ length xs)
    (w : Writes (Then (IsExactly (take a xs)) Is) xs zs end) where
  long : length (take a xs) ≡ a
  long = length-take-le a xs inside

  abbrev unused : List ℕ
  unused = drop (length w.text) xs

  whole : w.text ≡ take a xs ++ w.is.second
  whole = w.is.whole ∙ ap (λ t. t ++ w.is.second) w.is.is_first

  after : zs ≡ take a xs ++ (w.is.second ++ unused)
  after = w.front.written ∙ ap (λ t. t ++ unused) whole ∙ append_assoc (take a xs) w.is.second unused

  counted : end ≡ a + length w.is.second
  counted = omega (arith, w.count, ap length whole, length-append (take a xs) w.is.second, long)

  -- the bytes before the text are unchanged
  pub before_at : take a zs ≡ take a xs
  before_at = ap (take a) after ∙ take_at (take a xs) (w.is.second ++ unused) a long

  -- the bytes at the index are the text
  bytes_at : slice_range zs a end ≡ w.is.second
  bytes_at =
      let rest : drop a zs ≡ w.is.second ++ unused =
      ap (drop a) after ∙ drop_at (take a xs) (w.is.second ++ unused) a long in
      ap (take (end - a)) rest ∙ take_at w.is.second unused (end - a) (omega (arith, counted))

  -- the text is at the index
  pub there_at : Is (bytes_between zs a end)
  unfolding bytes_between
  there_at = rw bytes_at w.is.is_second

  -- the bytes at the index end where the text does
  pub count_at : end ≡ a + length (bytes_between zs a end)
  unfolding bytes_between
  count_at = counted ∙ ap (λ text. a + length text) (sym bytes_at)

  -- the bytes after the text are unchanged
  pub after_at : drop end zs ≡ drop end xs
  after_at = ap (drop end) w.front.written ∙ drop_at w.text unused end (sym w.count) ∙ ap (λ n. drop n xs) (sym w.count)

  -- a padded number that is then written over the first a bytes
  module _ {r n : ℕ} (part : List ℕ) (count : ℕ) (p : Writes (IsPadded r (length (take a zs)) n) (take a zs) part count)
      (over : count ≡ length (take a zs)) where
    wide : length (take a zs) ≡ a
    wide = ap length before_at ∙ long

    part_long : length part ≡ a
    part_long =
        let rest = drop (length p.text) (take a zs) in
        omega (
          arith,
          over,
          p.count,
          wide,
          ap length p.front.written,
          length-append p.text rest,
          length-drop (length p.text) (take a zs),
        )

    part_is : IsPadded r a n part
    part_is =
        let all : take count part ≡ part = take_all count part (omega (arith, over, wide, part_long)) in
        let is = rw all at (Writes-is (take a zs) part count p) in rw wide at is

    -- the number and then the text are at the start of the buffer
    pub framed : Writes (Then (IsPadded r a n) Is) xs (part ++ drop a zs) end
    framed =
        let rest : drop a zs ≡ w.is.second ++ unused =
        ap (drop a) after ∙ drop_at (take a xs) (w.is.second ++ unused) a long in
        let same : length (part ++ w.is.second) ≡ length w.text =
        omega (arith, length-append part w.is.second, part_long, w.count, counted) in
        record {
          text = part ++ w.is.second;
          is = record {
            first = part;
            second = w.is.second;
            is_first = part_is;
            is_second = w.is.is_second;
            whole = refl;
          };
          front = record {
            fits = omega (arith, same, w.front.fits);
            written = ap (λ t. part ++ t) rest ∙ sym (append_assoc part w.is.second unused)
                ∙ ap (λ m. (part ++ w.is.second) ++ drop m xs) (sym same);
          };
          count = w.count ∙ sym same;
        }
