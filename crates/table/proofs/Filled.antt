-- How a table is written: entry by entry a row, and row by row the table. Assumes nothing.
use Rattle.std.proofs.Common.{◌≡◌, ℕ, zero, suc, ◌+◌, ◌*◌, ◌<◌, ◌≤◌, List, [], ◌++◌, map, length, take, drop, set, ap, append_assoc, suc-mul, add-one, arith}
use borrow.Rule.Slice.PartMut.{put_mid}
use Rattle.std.specs.List.{flat_map}
use Rattle.std.proofs.lemmas.List.{length-append, length-map, take_more_set, map_push, flat_map_more, take_at, drop_at, drop-drop}
use Rattle.std.proofs.lemmas.Bool.{le-leb}
use Rattle.codes.specs.Codes.{Game, how_many, all_codes}
use Rattle.table.specs.Table.{size, shape_of, row_of, table_of, tabulated}
use Rattle.table.proofs.Counts.{length_all_codes}

-- a row of which the first i entries are written
pub filled_more :
    (f : ℕ → ℕ) (row : List ℕ) (i y : ℕ) → take i row ≡ map f (all_codes i) → i < length row → y ≡ f i →
    take (i + 1) (set row i y) ≡ map f (all_codes (i + 1))
unfolding all_codes
filled_more f row i y inv more e =
    cc (take_more_set row i y more, map_push f (all_codes i) i, ap (λ n. map f (all_codes n)) (add-one i))

pub length_row_of : (g : Game) (q : ℕ) → length (row_of g q) ≡ how_many g
length_row_of g q = simp length-map (length_all_codes (how_many g))

-- rows of n entries, one behind the other
module _ (f : ℕ → List ℕ) (n : ℕ) (long : (q : ℕ) → length (f q) ≡ n) where
  pub length_rows : (q : ℕ) → length (flat_map f (all_codes q)) ≡ q * n
  unfolding all_codes
  length_rows zero = omega arith
  length_rows (suc q) =
      let ih = length_rows q in
      rw (← flat_map_more f [] (all_codes q) q) (simp length-append (omega (arith, suc-mul q n, long q)))

  pub rows_more :
      (xs ys row : List ℕ) (q k : ℕ) → ys ≡ flat_map f (all_codes q) ++ drop (q * n) xs → row ≡ f q → k ≡ n →
      put_mid (q * n) k ys row ≡ flat_map f (all_codes (q + 1)) ++ drop ((q + 1) * n) xs
  unfolding all_codes
  rows_more xs ys row q k inv e w =
      let done = flat_map f (all_codes q) in
      let rest = drop (q * n) xs in
      let l = length_rows q in
      let more = flat_map_more f [] (all_codes q) q in
      let s = add-one q in
      let m = suc-mul q n in
      cc (take_at done rest (q * n) l, drop_at done rest (q * n) l, drop-drop n (q * n) xs, append_assoc done (f q) (drop (q * n + n) xs))

-- the rows of all guesses are the table
pub rows_all :
    (g : Game) (xs ys : List ℕ) (q n : ℕ) → size (shape_of g) ≤ length xs →
    ys ≡ flat_map (row_of g) (all_codes q) ++ drop (q * n) xs → q ≡ how_many g → n ≡ how_many g → ys ≡ tabulated g xs
unfolding table_of
rows_all g xs ys q n fit inv end wide = let h = le-leb (size (shape_of g)) (length xs) fit in rw h (cc)
