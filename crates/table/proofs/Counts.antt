-- The codes of a game, and whatever else is counted from 0, as a list. Assumes nothing.
use Rattle.std.proofs.Common.{◌≡◌, ℕ, zero, suc, ◌<◌, [], ◌∷◌, length, get_or, refl, ◌∙◌, inl, inr, arith}
use Rattle.std.proofs.lemmas.List.{length-append, get_or_append_left, get_or_push}
use Rattle.std.proofs.lemmas.Bool.{cases_eq}
use Rattle.codes.specs.Codes.{all_codes}

pub length_all_codes : (n : ℕ) → length (all_codes n) ≡ n
unfolding all_codes
length_all_codes zero = refl
length_all_codes (suc n) = let ih = length_all_codes n in simp length-append (omega arith)

pub get_or_all_codes : (n i : ℕ) → i < n → get_or (all_codes n) i 0 ≡ i
unfolding all_codes
get_or_all_codes zero i low = absurd (omega arith)
get_or_all_codes (suc n) i low =
    let long = length_all_codes n in
    elim (cases_eq i n) [
      | inl e ↦ rw e (get_or_push (all_codes n) n 0 n long)
      | inr ne ↦ get_or_append_left (all_codes n) (n ∷ []) 0 i (omega arith) ∙ get_or_all_codes n i (omega arith)
    ]
