-- Where each way of being told stands in the rule book's list. Assumes nothing.
use Rattle.std.proofs.Common.{◌≡◌, ℕ, zero, suc, ◌+◌, ◌-◌, ◌*◌, ◌/◌, ◌<◌, ◌≤◌, true, ◌&&◌, eqb, leb, List, [], ◌∷◌, ◌++◌, length, Some, None, refl, ap, ap₂, inl, inr, suc-mul, mul-suc, mul-add, add-one, arith}
use Rattle.std.specs.List.{slice_get}
use Rattle.std.proofs.lemmas.Nat.{mul-le}
use Rattle.std.proofs.lemmas.List.{length-append}
use Rattle.std.proofs.lemmas.Option.{slice_get_past}
use Rattle.std.proofs.lemmas.Bool.{cases_eq, cases_Bool}
use Rattle.std.proofs.lemmas.Bool.Decides.{nat_tests}
use Rattle.codes.specs.Codes.{pick, Told, same, with_near, all_told}
use Rattle.table.specs.Answers.{place_in, fewer_right}

-- the place in a list, or behind it in another
place_append :
    (us vs : List Told) (t : Told) →
    place_in (us ++ vs) t ≡ pick (eqb (place_in us t) (length us)) (length us + place_in vs t) (place_in us t)
unfolding place_in
place_append [] vs t = grind (arith, nat_tests)
place_append (u ∷ us) vs t = let ih = place_append us vs t in grind (arith, nat_tests)

length_with_near : (r m : ℕ) → length (with_near r m) ≡ suc m
unfolding with_near
length_with_near r zero = refl
length_with_near r (suc m) =
    let ih = length_with_near r m in simp length-append (omega arith)

place_with_near :
    (s m : ℕ) (t : Told) → place_in (with_near s m) t ≡ pick (eqb s t.right && leb t.near m) t.near (suc m)
unfolding with_near place_in
place_with_near s zero t = grind (arith, nat_tests)
place_with_near s (suc m) t =
    let ih = place_with_near s m t in
    let long = length_with_near s m in
    rw (place_append (with_near s m) _ t) (grind (arith, nat_tests))

-- so many answers have at most so many right
pub length_all_told : (p r : ℕ) → length (all_told p r) ≡ fewer_right p (suc r)
unfolding all_told fewer_right
length_all_told p zero = let l = length_with_near 0 p in omega arith
length_all_told p (suc r) =
    let ih = length_all_told p r in
    let l = length_with_near (suc r) (p - suc r) in
    simp length-append (omega arith)

-- what has so many right stands before what has more
fewer_right_lt : (p r s n : ℕ) → r ≤ s → n ≤ p - r → fewer_right p r + n < fewer_right p (suc s)
unfolding fewer_right
fewer_right_lt p r zero n le few = grind (arith, nat_tests)
fewer_right_lt p r (suc s) n le few =
    elim (cases_eq r (suc s)) [
      | inl e ↦ grind (arith, nat_tests)
      | inr ne ↦ let ih = fewer_right_lt p r s n (omega arith) few in omega arith
    ]

place_all_told :
    (p s : ℕ) (t : Told) →
    place_in (all_told p s) t
    ≡ pick (leb t.right s && leb t.near (p - t.right)) (fewer_right p t.right + t.near) (fewer_right p (suc s))
unfolding all_told fewer_right
place_all_told p zero t = rw (place_with_near 0 p t) (grind (arith, nat_tests))
place_all_told p (suc s) t =
    let ih = place_all_told p s t in
    let here = place_with_near (suc s) (p - suc s) t in
    let long = length_all_told p s in
    let before = fewer_right_lt p t.right s t.near in
    rw (place_append (all_told p s) _ t) (grind (arith, nat_tests))

pub fewer_right_double : (p r : ℕ) → r ≤ p + 1 → 2 * fewer_right p r + r * r ≡ r * (2 * p + 3)
unfolding fewer_right
fewer_right_double p zero le = omega arith
fewer_right_double p (suc r) le =
    let ih = fewer_right_double p r (omega arith) in
    omega (arith, suc-mul r (suc r), mul-suc r r, suc-mul r (2 * p + 3))

-- the sum of as many numbers, each one less than that before it
pub fewer_right_is : (p r : ℕ) → r ≤ p + 1 → r * (2 * p + 3 - r) / 2 ≡ fewer_right p r
fewer_right_is p r le =
    let whole : 2 * p + 3 - r + r ≡ 2 * p + 3 = omega arith in
    omega (arith, fewer_right_double p r le, mul-add r (2 * p + 3 - r) r, ap (λ n. r * n) whole)

-- which fits a byte before it is halved
pub fewer_right_small : (p r : ℕ) → p ≤ 8 → r ≤ p + 1 → r * (2 * p + 3 - r) ≤ 9 * 19
fewer_right_small p r few le = mul-le r (2 * p + 3 - r) 9 19 (omega arith) (omega arith)

-- the number of what is told of no more pegs than there are
pub number_is : (p : ℕ) (t : Told) → t.right + t.near ≤ p → place_in (all_told p p) t ≡ fewer_right p t.right + t.near
number_is p t le = let e = place_all_told p p t in grind (arith, nat_tests)

pub same_is : (s t : Told) → same s t ≡ true → s ≡ t
same_is s t e =
    ap₂ (λ (r n : ℕ). record { right = r; near = n }) (grind (arith, nat_tests)) (grind (arith, nat_tests))

nth_place : (us : List Told) (t : Told) → place_in us t < length us → slice_get us (place_in us t) ≡ Some t
unfolding place_in
nth_place [] t h = absurd (omega arith)
nth_place (u ∷ us) t h =
    elim (cases_Bool (same u t)) [
      | inl e ↦ rw e (ap Some (same_is u t e))
      | inr e ↦ rw e (nth_place us t (grind (arith, nat_tests)))
    ]

-- at the number of what a game allows stands just that
pub nth_number : (p : ℕ) (t : Told) → t.right + t.near ≤ p → slice_get (all_told p p) (fewer_right p t.right + t.near) ≡ Some t
nth_number p t le =
    let e = number_is p t le in
    let long = length_all_told p p in
    rw (← e) (nth_place (all_told p p) t (omega (arith, fewer_right_lt p t.right p t.near (omega arith) (omega arith))))

-- and past the last number nothing does
pub nth_none : (p r n : ℕ) → r ≡ p + 1 → slice_get (all_told p p) (fewer_right p r + n) ≡ None
nth_none p r n e = slice_get_past (all_told p p) (fewer_right p r + n) (rw (length_all_told p p, e, add-one) (omega arith))
