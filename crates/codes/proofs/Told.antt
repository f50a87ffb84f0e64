-- What two rows of pegs have alike, at the same place and at any place. Assumes nothing.
use Rattle.std.proofs.Common.{◌≡◌, ℕ, zero, suc, ◌+◌, ◌-◌, ◌≤◌, true, ◌&&◌, eqb, ltb, ◌⊎◌, List, [], ◌∷◌, length, refl, ap, inl, inr, arith}
use Rattle.std.proofs.lemmas.Bool.Decides.{eqb_tells, nat_tests}
use Rattle.codes.specs.Codes.{pick, pegs_of, at_place, of_colour, in_common}
use Rattle.codes.specs.Laws.{WithinPegs, ItselfRight, NeverOneNear}
use Rattle.codes.specs.Pegs.{coloured}
use Rattle.codes.specs.Promise.{EitherWay, AllRight}
use Rattle.codes.proofs.Digits.{length_digits, number_digits, coloured_cons}

at_place_sym : (xs ys : List ℕ) → at_place xs ys ≡ at_place ys xs
unfolding at_place
at_place_sym [] [] = refl
at_place_sym [] (y ∷ ys) = refl
at_place_sym (x ∷ xs) [] = refl
at_place_sym (x ∷ xs) (y ∷ ys) = let ih = at_place_sym xs ys in grind (arith, nat_tests)

in_common_sym : (c : ℕ) (xs ys : List ℕ) → in_common c xs ys ≡ in_common c ys xs
unfolding in_common
in_common_sym zero xs ys = refl
in_common_sym (suc c) xs ys = let ih = in_common_sym c xs ys in grind (arith, nat_tests)

pub either_way : EitherWay
unfolding EitherWay
either_way g c q =
    cc (at_place_sym (pegs_of g c) (pegs_of g q), in_common_sym g.colours (pegs_of g c) (pegs_of g q))

at_place_le : (xs ys : List ℕ) → at_place xs ys ≤ length xs
unfolding at_place
at_place_le [] ys = omega arith
at_place_le (x ∷ xs) [] = omega arith
at_place_le (x ∷ xs) (y ∷ ys) = let ih = at_place_le xs ys in grind (arith, nat_tests)

in_common_none : (c : ℕ) (ys : List ℕ) → in_common c [] ys ≡ 0
unfolding in_common of_colour
in_common_none zero ys = refl
in_common_none (suc c) ys = let ih = in_common_none c ys in grind (arith, nat_tests)

-- one peg more has at most one more in common, and none if its colour is not counted
in_common_more : (c x : ℕ) (xs ys : List ℕ) → in_common c (x ∷ xs) ys ≤ in_common c xs ys + pick (ltb x c) 1 0
unfolding in_common of_colour
in_common_more zero x xs ys = omega arith
in_common_more (suc c) x xs ys = let ih = in_common_more c x xs ys in grind (arith, nat_tests)

pub in_common_le : (c : ℕ) (xs ys : List ℕ) → in_common c xs ys ≤ length xs
in_common_le c [] ys = omega (arith, in_common_none c ys)
in_common_le c (x ∷ xs) ys =
    let ih = in_common_le c xs ys in let more = in_common_more c x xs ys in grind (arith, nat_tests)

pub within_pegs : WithinPegs
within_pegs g c q =
    let right = at_place_le (pegs_of g c) (pegs_of g q) in
    let common = in_common_le g.colours (pegs_of g c) (pegs_of g q) in
    omega (arith, length_digits g.pegs g.colours c)

at_place_self : (xs : List ℕ) → at_place xs xs ≡ length xs
unfolding at_place
at_place_self [] = refl
at_place_self (x ∷ xs) = let ih = at_place_self xs in grind (arith, nat_tests)

pub itself_right : ItselfRight
itself_right g c =
    let xs = pegs_of g c in
    let l = length_digits g.pegs g.colours c in
    let right = at_place_self xs in
    let near : in_common g.colours xs xs - at_place xs xs ≡ 0 = omega (arith, in_common_le g.colours xs xs) in
    cc

-- rows that are alike at every place are the same
same_from_at_place : (xs ys : List ℕ) → length xs ≡ length ys → at_place xs ys ≡ length xs → xs ≡ ys
unfolding at_place
same_from_at_place [] [] l h = refl
same_from_at_place [] (y ∷ ys) l h = absurd (omega arith)
same_from_at_place (x ∷ xs) [] l h = absurd (omega arith)
same_from_at_place (x ∷ xs) (y ∷ ys) l h =
    let most = at_place_le xs ys in
    let first : x ≡ y = grind (arith, nat_tests) in
    let rest = same_from_at_place xs ys (omega arith) (grind (arith, nat_tests)) in
    cc

pub all_right : AllRight
unfolding AllRight
all_right g c q t hc hq h =
    let length_of = length_digits g.pegs g.colours in
    let lc = length_of c in let lq = length_of q in
    let pegs = same_from_at_place (pegs_of g c) (pegs_of g q) (omega arith) (omega arith) in
    cc (number_digits g.pegs g.colours c hc, number_digits g.pegs g.colours q hq)

-- a first peg brings rows one more in common if it is the same in both; if not, and if the others are the same, none
in_common_cons :
    (c x y : ℕ) (xs ys : List ℕ) → (x ≡ y) ⊎ (xs ≡ ys) →
    in_common c (x ∷ xs) (y ∷ ys) ≤ in_common c xs ys + pick (eqb x y && ltb x c) 1 0
unfolding in_common of_colour
in_common_cons zero x y xs ys e = omega arith
in_common_cons (suc c) x y xs ys e = let ih = in_common_cons c x y xs ys e in grind (arith, nat_tests)

-- and it takes nothing away
in_common_grows :
    (c x y : ℕ) (xs ys : List ℕ) → in_common c xs ys + pick (eqb x y && ltb x c) 1 0 ≤ in_common c (x ∷ xs) (y ∷ ys)
unfolding in_common of_colour
in_common_grows zero x y xs ys = grind (arith, nat_tests)
in_common_grows (suc c) x y xs ys = let ih = in_common_grows c x y xs ys in grind (arith, nat_tests)

-- what is alike at the same place is in common
pub at_place_common : (c : ℕ) (xs ys : List ℕ) → coloured c xs ≡ true → at_place xs ys ≤ in_common c xs ys
unfolding at_place
at_place_common c [] ys h = omega arith
at_place_common c (x ∷ xs) [] h = omega arith
at_place_common c (x ∷ xs) (y ∷ ys) h =
    let (low, rest) = coloured_cons c x xs h in
    let ih = at_place_common c xs ys rest in
    let more = in_common_grows c x y xs ys in
    grind (arith, nat_tests)

-- rows that are alike at all places but one have nothing in common besides
none_near :
    (c : ℕ) (xs ys : List ℕ) → length xs ≡ length ys → suc (at_place xs ys) ≡ length xs →
    in_common c xs ys ≤ at_place xs ys
unfolding at_place
none_near c [] ys l h = omega arith
none_near c (x ∷ xs) [] l h = omega arith
none_near c (x ∷ xs) (y ∷ ys) l h =
    elim (eqb_tells x y) [
      | inl (_, e) ↦
          let ih = none_near c xs ys (omega arith) (grind (arith, nat_tests)) in
          let more = in_common_cons c x y xs ys (inl e) in
          grind (arith, nat_tests)
      | inr n ↦
          let all = same_from_at_place xs ys (omega arith) (grind (arith, nat_tests)) in
          let more = in_common_cons c x y xs ys (inr all) in
          let most = in_common_le c xs ys in
          grind (arith, nat_tests)
    ]

pub never_one_near : NeverOneNear
never_one_near g c q h =
    let right = ap (λ t. t.right) h in let near = ap (λ t. t.near) h in
    let length_of = length_digits g.pegs g.colours in
    let lc = length_of c in let lq = length_of q in
    let within = within_pegs g c q in
    omega (arith, none_near g.colours (pegs_of g c) (pegs_of g q) (omega arith) (omega arith))
