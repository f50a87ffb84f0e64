-- Numbers and the ways of being told, there and back. Assumes nothing.
use Rattle.std.proofs.Common.{◌≡◌, ℕ, zero, suc, ◌+◌, ◌-◌, ◌*◌, ◌<◌, ◌≤◌, eqb, map, length, get_or, Some, sym, ap, ◌∙◌, inl, inr, mul-add, add-one, arith}
use Rattle.std.specs.List.{slice_get}
use Rattle.std.proofs.lemmas.List.{length-map, get_or-map, ext_get_or}
use Rattle.std.proofs.lemmas.Option.{slice_get-get_or, slice_get_past}
use Rattle.std.proofs.lemmas.Bool.{cases_lt}
use Rattle.std.proofs.lemmas.Bool.Decides.{eqb_tells, nat_tests}
use Rattle.codes.specs.Codes.{Game, Told, same, all_codes}
use Rattle.table.specs.Answers.{answers, answer_number, Allowed, all_right, fewer_right}
use Rattle.table.specs.Laws.{NumberStands, StandsAtNumber, NumbersDiffer, HowManyAnswers, NumbersCount, RightNumbered}
use Rattle.table.proofs.Counts.{length_all_codes, get_or_all_codes}
use Rattle.table.proofs.Places.{length_all_told, number_is, nth_number, same_is, fewer_right_double}

pub number_stands : NumberStands
number_stands g t le = rw (number_is g.pegs t le) (nth_number g.pegs t le)

pub numbers_differ : NumbersDiffer
numbers_differ g s t hs ht e = cc (number_stands g s hs, number_stands g t ht)

-- each place among the answers with at most so many right is that of one of them
place_split :
    (p s i : ℕ) → s ≤ p → i < fewer_right p (suc s) →
    (t : Told) × (t.right + t.near ≤ p) × (fewer_right p t.right + t.near ≡ i)
unfolding fewer_right
place_split p zero i le low = (record { right = 0; near = i }, omega arith, omega arith)
place_split p (suc s) i le low =
    elim (cases_lt i (fewer_right p (suc s))) [
      | inl before ↦ place_split p s i (omega arith) before
      | inr here ↦ (record { right = suc s; near = i - fewer_right p (suc s) }, omega arith, omega arith)
    ]

within : (g : Game) (i : ℕ) (t : Told) → slice_get (answers g) i ≡ Some t → i < fewer_right g.pegs (suc g.pegs)
within g i t at =
    let long = length_all_told g.pegs g.pegs in let past = slice_get_past (answers g) i in grind arith

pub stands_at_number : StandsAtNumber
stands_at_number g i t at = from (place_split g.pegs g.pegs i (omega arith) (within g i t at))
  where
    from : (u : Told) × Allowed g u × (fewer_right g.pegs u.right + u.near ≡ i) → (answer_number g t ≡ i) × Allowed g t
    from (u, le, is) =
        let e : u ≡ t = cc (nth_number g.pegs u le) in rw (← e) (cc (number_is g.pegs u le), le)

pub number_lt : (g : Game) (t : Told) → Allowed g t → answer_number g t < length (answers g)
number_lt g t le = rw (length_all_told g.pegs g.pegs) (within g _ t (number_stands g t le))

pub how_many_answers : HowManyAnswers
unfolding fewer_right
how_many_answers g =
    let p = g.pegs in
    let long = length_all_told p p in
    let last = number_is p (all_right g) (omega arith) in
    let twice = fewer_right_double p (suc p) (omega arith) in
    let whole : suc p + (p + 2) ≡ 2 * p + 3 = omega arith in
    (rw add-one (omega (arith, mul-add (suc p) (suc p) (p + 2), ap (λ n. suc p * n) whole)), omega arith)

-- numbers tell the ways of being told apart
pub numbers_tell :
    (g : Game) (s t : Told) → Allowed g s → Allowed g t →
    eqb (answer_number g s) (answer_number g t) ≡ same s t
numbers_tell g s t hs ht =
    elim (eqb_tells (answer_number g s) (answer_number g t)) [
      | inl (e, n) ↦ let is = numbers_differ g s t hs ht n in rw (e, is) (grind (arith, nat_tests))
      | inr (e, n) ↦ let is = same_is s t in rw e (grind (arith, nat_tests))
    ]

pub numbers_count : NumbersCount
numbers_count g =
    let us = answers g in
    let none = all_right g in
    ext_get_or 0 (map (answer_number g) us) (all_codes (length us)) (length-map us (answer_number g) ∙ sym (length_all_codes (length us)))
    (λ i low.
    let here : i < length us = rw (length-map us (answer_number g)) at low in
    get_or-map (answer_number g) us i none 0 here
    ∙ (stands_at_number g i (get_or us i none) (slice_get-get_or us i none here)).0
    ∙ sym (get_or_all_codes (length us) i here))

pub right_numbered : RightNumbered
right_numbered g t le = numbers_tell g t (all_right g) le (omega arith) ∙ grind (arith, nat_tests)
