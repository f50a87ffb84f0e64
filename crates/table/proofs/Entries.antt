-- What the entries of a game's table say. Assumes nothing.
use Rattle.std.proofs.Common.{◌≡◌, ℕ, zero, suc, ◌+◌, ◌*◌, ◌<◌, ◌≤◌, eqb, List, [], ◌++◌, length, get_or, sym, ap, ◌∙◌, inl, inr, append_assoc, arith}
use Rattle.std.specs.List.{flat_map}
use Rattle.std.proofs.lemmas.List.{length-append, get_or_append_left, get_or-append-add, get_or-map, flat_map_more, ext_get_or}
use Rattle.std.proofs.lemmas.Bool.{cases_eq, le-leb}
use Rattle.std.proofs.lemmas.Bool.Decides.{eqb_tells, nat_tests}
use Rattle.codes.specs.Codes.{Game, how_many, told_of, same, all_codes}
use Rattle.codes.specs.Promise.{Taken, AllRight}
use Rattle.codes.proofs.Told.{within_pegs, itself_right, all_right}
use Rattle.table.specs.Answers as specs
use Rattle.table.specs.Laws.{GameTable, RowsTell, EntriesTell, EntriesPart, LookUpTells, Diagonal}
use Rattle.table.specs.Table.{size, row, shape_of, told_number, row_of, table_of}
use Rattle.table.proofs.Counts.{length_all_codes, get_or_all_codes}
use Rattle.table.proofs.Filled.{length_row_of, length_rows}
use Rattle.table.proofs.Numbers.{number_stands, number_lt, numbers_tell, how_many_answers}
use Rattle.table.proofs.Tables.{length_row, get_or_row}

-- an entry of rows of n entries, one behind the other
module _ (f : ℕ → List ℕ) (n : ℕ) (long : (q : ℕ) → length (f q) ≡ n) where
  get_or_rows :
      (m q c : ℕ) (rest : List ℕ) → q < m → c < n → get_or (flat_map f (all_codes m) ++ rest) (q * n + c) 0 ≡ get_or (f q) c 0
  unfolding all_codes
  get_or_rows zero q c rest lq lc = absurd (omega arith)
  get_or_rows (suc m) q c rest lq lc =
      rw (← flat_map_more f [] (all_codes m) m, append_assoc (flat_map f (all_codes m)) (f m) rest) (
      elim (cases_eq q m) [
        | inl e ↦
            rw (e, ← length_rows f n long m)
            (get_or-append-add (flat_map f (all_codes m)) (f m ++ rest) c 0 ∙ get_or_append_left (f m) rest 0 c (omega (arith, long m)))
        | inr ne ↦ get_or_rows m q c (f m ++ rest) (omega arith) lc
      ])

entry_row :
    (g : Game) (rest : List ℕ) (q c : ℕ) → q < how_many g → c < how_many g →
    get_or (table_of g ++ rest) (q * how_many g + c) 0 ≡ get_or (row_of g q) c 0
unfolding table_of
entry_row g rest q c lq lc = get_or_rows (row_of g) (how_many g) (length_row_of g) (how_many g) q c rest lq lc

pub entries_tell : EntriesTell
entries_tell g rest q c lq lc =
    let long = length_all_codes (how_many g) in
    entry_row g rest q c lq lc
    ∙ get_or-map (told_number g q) (all_codes (how_many g)) c 0 0 (omega arith)
    ∙ ap (told_number g q) (get_or_all_codes (how_many g) c lc)

-- there are bytes enough behind the table's front
whole : (g : Game) (rest : List ℕ) → size (shape_of g) ≤ length (table_of g ++ rest)
unfolding table_of
whole g rest = simp length-append (omega (arith, length_rows (row_of g) (how_many g) (length_row_of g) (how_many g)))

pub game_table : GameTable
game_table g rest =
    record {
      whole = whole g rest;
      right = omega (arith, how_many_answers g);
      known = λ q c lq lc. rw (entries_tell g rest q c lq lc) (number_lt g (told_of g c q) (within_pegs g c q));
    }

pub rows_tell : RowsTell
rows_tell g rest q lq =
    let xs = table_of g ++ rest in
    let long = length_row (shape_of g) xs q (le-leb _ _ (whole g rest)) lq in
    ext_get_or 0 (row (shape_of g) xs q) (row_of g q) (long ∙ sym (length_row_of g q))
    (λ c low. let lc : c < how_many g = omega arith in get_or_row (shape_of g) xs q c lc ∙ entry_row g rest q c lq lc)

pub entries_part : EntriesPart
entries_part g rest q c t lq lc le =
    rw (entries_tell g rest q c lq lc) (numbers_tell g (told_of g c q) t (within_pegs g c q) le)

pub look_up_tells : LookUpTells
look_up_tells g rest q c lq lc =
    rw (le-leb _ _ (whole g rest), le-leb _ _ lq, le-leb _ _ lc, entries_tell g rest q c lq lc)
    (number_stands g (told_of g c q) (within_pegs g c q))

-- all right is told of the code itself, and of no other
right_of_itself :
    (g : Game) (q c : ℕ) → Taken g → q < how_many g → c < how_many g → same (told_of g c q) (specs.all_right g) ≡ eqb q c
unfolding AllRight
right_of_itself g q c taken lq lc =
    elim (eqb_tells q c) [
      | inl (e, is) ↦ rw (e, is) (ap (λ t. same t (specs.all_right g)) (itself_right g c) ∙ grind (arith, nat_tests))
      | inr (e, ne) ↦ let only = all_right g c q taken lc lq in rw e (grind (arith, nat_tests))
    ]

pub diagonal : Diagonal
diagonal g rest q c taken lq lc =
    entries_part g rest q c (specs.all_right g) lq lc (omega arith) ∙ right_of_itself g q c taken lq lc
