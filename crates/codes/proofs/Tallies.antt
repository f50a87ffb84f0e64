-- How the pegs of a row are counted by their colours, one after another. Assumes nothing.
use Rattle.std.proofs.Common.{◌≡◌, ℕ, ◌+◌, ◌<◌, ◌≤◌, eqb, List, [], ◌∷◌, length, get_or, drop, set, sym, ◌∙◌, inl, inr, arith}
use Rattle.std.proofs.lemmas.List.{length-set, get_or-set_same, get_or-set_other, at_drop_more, at_drop_all}
use Rattle.std.proofs.lemmas.Bool.Decides.{eqb_tells, nat_tests}
use Rattle.codes.specs.Codes.{pick, of_colour}

of_colour_le : (c : ℕ) (xs : List ℕ) → of_colour c xs ≤ length xs
unfolding of_colour
of_colour_le c [] = omega arith
of_colour_le c (x ∷ xs) = let ih = of_colour_le c xs in grind (arith, nat_tests)

of_colour_more :
    (c : ℕ) (xs : List ℕ) (i : ℕ) → i < length xs →
    of_colour c (drop i xs) ≡ pick (eqb (get_or xs i 0) c) 1 0 + of_colour c (drop (i + 1) xs)
unfolding of_colour
of_colour_more c xs i h = at_drop_more (of_colour c) xs i 0 h

get_or_set :
    (xs : List ℕ) (i y j : ℕ) → i < length xs → get_or (set xs i y) j 0 ≡ pick (eqb i j) y (get_or xs j 0)
get_or_set xs i y j h =
    elim (eqb_tells i j) [
      | inl (t, e) ↦ cc (get_or-set_same xs i y 0 h)
      | inr (f, n) ↦ cc (get_or-set_other xs i j y 0 (λ e. n (sym e)))
    ]

-- the first i pegs of a row are counted
module _ (row : List ℕ) where
  pub record Tallied (i : ℕ) (counts : List ℕ) : Type 0 where
    pub long : length counts ≡ 16
    pub each : (c : ℕ) → c < 16 → get_or counts c 0 + of_colour c (drop i row) ≡ of_colour c row

  -- a colour of which a peg is to come has been counted fewer times than there are pegs
  pub tally_lt :
      (i : ℕ) (counts : List ℕ) → Tallied i counts → i < length row → get_or row i 0 < 16 →
      get_or counts (get_or row i 0) 0 < length row
  tally_lt i counts t h low =
      let x = get_or row i 0 in
      let m = of_colour_more x row i h in
      let most = of_colour_le x row in
      let e = t.each x low in
      grind (arith, nat_tests)

  pub tallied_more :
      (i : ℕ) (counts : List ℕ) → Tallied i counts → i < length row → get_or row i 0 < 16 →
      Tallied (i + 1) (set counts (get_or row i 0) (get_or counts (get_or row i 0) 0 + 1))
  tallied_more i counts t h low =
      let x = get_or row i 0 in
      record {
        long = length-set counts x _ ∙ t.long;
        each = λ c small.
            let m = of_colour_more c row i h in
            let e = t.each c small in
            let w = get_or_set counts x (get_or counts x 0 + 1) c (omega (arith, t.long)) in
            grind (arith, nat_tests);
      }

  pub tallied_all :
      (i : ℕ) (counts : List ℕ) → Tallied i counts → length row ≤ i → (c : ℕ) → c < 16 → get_or counts c 0 ≡ of_colour c row
  unfolding of_colour
  tallied_all i counts t h c small = omega (arith, t.each c small, at_drop_all (of_colour c) row i h)
