-- Rows of any forms: what is written is read back, and what is not a row ceases to be one at the place that is read. Assumes nothing.
use Rattle.std.proofs.Common.{◌≡◌, ℕ, zero, suc, ◌-◌, ◌/◌, ◌^◌, ◌<◌, ◌≤◌, Bool, true, false, eqb, ltb, ◌⊎◌, List, [], ◌∷◌, ◌++◌, map, length, get_or, take, drop, replicate, sym, refl, ap, ◌∙◌, subst, inl, inr, append_assoc, arith}
use native.Mathlib.Nat.{pow-succ'}
use Rattle.std.specs.List.{range_with_len}
use Rattle.std.proofs.lemmas.List.{take_at, take-take, take-append-drop, drop_at, length-append, length-drop, length-take-le, length-replicate}
use Rattle.std.proofs.ByRecursion.{All-append, All-take, All-drop}
use Rattle.std.proofs.lemmas.List.FromFn.{fill_by_all}
use Rattle.std.proofs.lemmas.Bool.{ltb-true, ltb-false, eqb-true}
use Rattle.std.proofs.lemmas.Bool.Decides.{nat_tests}
use Rattle.codes.specs.Codes.{pick}
use Rattle.wire.specs.Rows.{Bytes, low_first, number_of, size, written, values, Fit}
use Rattle.wire.specs.Rows.{Reading, row, ceases, by_form, reading, Fits, row_bytes, Begins, Ceases, Only}

number_of_low_first : (w n : ℕ) → n < 256 ^ w → number_of (low_first w n) ≡ n
number_of_low_first zero n h = omega arith
number_of_low_first (suc w) n h = let p = pow-succ' 256 w in let ih = number_of_low_first w (n / 256) (omega arith) in omega arith

low_first_number_of : (bs : List ℕ) → Bytes bs → low_first (length bs) (number_of bs) ≡ bs
low_first_number_of [] h = refl
low_first_number_of (b ∷ bs) h = let ih = low_first_number_of bs h.1 in grind arith

number_of_lt : (bs : List ℕ) → Bytes bs → number_of bs < 256 ^ length bs
number_of_lt [] h = omega arith
number_of_lt (b ∷ bs) h = let p = pow-succ' 256 (length bs) in let ih = number_of_lt bs h.1 in omega arith

-- a list of a known length, one by one
counted : (xs : List ℕ) (n : ℕ) → length xs ≡ n → xs ≡ map (λ i. get_or xs i 0) (range_with_len 0 n)
counted xs n l = fill_by_all (λ i. get_or xs i 0) xs n 0 l (λ _ _. refl)

length_low_first : (w n : ℕ) → length (low_first w n) ≡ w
length_low_first zero n = refl
length_low_first (suc w) n = ap suc (length_low_first w (n / 256))

length_written : (ws vs : List ℕ) → Fit ws vs → length (written ws vs) ≡ size ws
length_written [] vs f = refl
length_written (w ∷ ws) [] f = elim f [ ]
length_written (w ∷ ws) (v ∷ vs) f = simp (length-append, length_low_first, length_written ws vs f.1)

values_written : (ws vs : List ℕ) → Fit ws vs → values ws (written ws vs) ≡ vs
values_written [] [] f = refl
values_written [] (v ∷ vs) f = elim f [ ]
values_written (w ∷ ws) [] f = elim f [ ]
values_written (w ∷ ws) (v ∷ vs) f =
    let l = length_low_first w v in
    simp (take_at _ (written ws vs) w l, drop_at _ (written ws vs) w l, number_of_low_first w v f.0, values_written ws vs f.1)

-- bytes of a form's size are its values, written
values_sound : (ws bs : List ℕ) → length bs ≡ size ws → Bytes bs → Fit ws (values ws bs) × (written ws (values ws bs) ≡ bs)
values_sound [] [] l h = (tt, refl)
values_sound [] (b ∷ bs) l h = absurd (omega arith)
values_sound (w ∷ ws) bs l h =
    let front = length-take-le w bs (omega arith) in
    let low = All-take _ w bs h in
    let ih = values_sound ws (drop w bs) (simp length-drop (omega arith)) (All-drop _ w bs h) in
    ((rw front at (number_of_lt (take w bs) low), ih.0), cc (low_first_number_of (take w bs) low, take-append-drop w bs))

zero_bytes : (n : ℕ) → Bytes (replicate n 0)
zero_bytes zero = tt
zero_bytes (suc n) = (omega arith, zero_bytes n)

length_values : (ws bs : List ℕ) → length (values ws bs) ≡ length ws
length_values [] bs = refl
length_values (w ∷ ws) bs = ap suc (length_values ws (drop w bs))

pick_both : {A : Type 0} (b : Bool) (x y : A) (P : A → Type 0) → (b ≡ true → P x) → (b ≡ false → P y) → P (pick b x y)
pick_both true x y P f g = f refl
pick_both false x y P f g = g refl

-- bytes cease to be one of some things at one place only
module _ {A : Type 0} (Known : A → Type 0) (bytes : A → List ℕ) (bs : List ℕ) where
  -- a beginning of a beginning
  begins_before : (m n : ℕ) (ys : List ℕ) → m ≤ n → Begins (take n bs) ys → Begins (take m bs) ys
  begins_before m n ys le b =
      let front = rw take-take at (take-append-drop m (take n bs)) in
      (drop m (take n bs) ++ b.0, cc (append_assoc (take m bs) (drop m (take n bs)) b.0, front, b.1))

  no_later : (m n : ℕ) → Ceases Known bytes bs m → Ceases Known bytes bs n → m < n → ⊥
  no_later m n c d lt =
      elim c.stuck [
        | inl s ↦ s.1 d.begun.0 d.begun.1 (begins_before (suc m) n _ lt d.begun.2)
        | inr s ↦ elim d.stuck [ inl e ↦ omega arith | inr e ↦ omega arith ]
      ]

  ceases_once : (n : ℕ) → Ceases Known bytes bs n → Only (Ceases Known bytes bs) n
  ceases_once n c = (c, λ m d. grind (arith, no_later m n d c, no_later n m c d))

module _ (forms : List (List ℕ)) where
  pub reading_row_bytes : (r : Reading) → Fits forms r → reading forms (row_bytes forms r) ≡ r
  reading_row_bytes (ceases n) f = elim f [ ]
  reading_row_bytes (row k vs) f =
      let l = length_written (get_or forms k []) vs f.1 in
      let e = values_written (get_or forms k []) vs f.1 in
      grind (arith, nat_tests)

  -- a fitting row has its values one by one
  pub row_counted :
      (k : ℕ) (vs : List ℕ) → Fits forms (row k vs) → row k (map (λ i. get_or vs i 0) (range_with_len 0 (length (get_or forms k [])))) ≡ row k vs
  row_counted k vs f =
      let ws = get_or forms k [] in
      let l : length vs ≡ length ws = ap length (sym (values_written ws vs f.1)) ∙ length_values ws (written ws vs) in
      ap (row k) (sym (counted vs (length ws) l))

  -- a known first byte begins a row, with no more bytes after it than its form has
  begins_row :
      (k : ℕ) (bs : List ℕ) → k < length forms → Bytes bs → length bs ≤ size (get_or forms k []) →
      (r : Reading) × Fits forms r × Begins (k ∷ bs) (row_bytes forms r)
  begins_row k bs known h few =
      let ws = get_or forms k [] in
      let zs = replicate (size ws - length bs) 0 in
      let l : length (bs ++ zs) ≡ size ws = simp (length-append, length-replicate) (omega arith) in
      let is = values_sound ws (bs ++ zs) l (All-append _ bs zs h (zero_bytes _)) in
      (row k (values ws (bs ++ zs)), (known, is.0), (zs, ap (λ xs. k ∷ xs) (sym is.1)))

  some_row : 0 < length forms → (r : Reading) × Fits forms r × Begins [] (row_bytes forms r)
  some_row some = let r = begins_row 0 [] some tt (omega arith) in (r.0, r.1, (row_bytes forms r.0, refl))

  -- each row has a known first byte, and as many bytes after it as its form has
  abbrev Whole : List ℕ → Type 0
  Whole bs = (get_or bs 0 0 < length forms) × (length bs ≡ suc (size (get_or forms (get_or bs 0 0) [])))

  row_whole : (r : Reading) (bs : List ℕ) → Fits forms r → row_bytes forms r ≡ bs → Whole bs
  row_whole (row k vs) bs f e = subst Whole e (f.0, ap suc (length_written (get_or forms k []) vs f.1))
  row_whole (ceases n) bs f e = elim f [ ]

  -- bytes after a known first one cease at their end where they are too few, and else at the first one too many
  ceases_after :
      (k m : ℕ) (bs : List ℕ) → k < length forms → Bytes bs →
      ((m ≡ length bs) × (m < size (get_or forms k []))) ⊎ ((m < length bs) × (m ≡ size (get_or forms k []))) →
      Ceases (Fits forms) (row_bytes forms) (k ∷ bs) (suc m)
  ceases_after k m bs known h why =
      let l = length-take-le m bs (grind arith) in
      record {
        begun = begins_row k (take m bs) known (All-take _ m bs h) (grind arith);
        stuck =
            elim why [
              | inl e ↦ inr (ap suc e.0, λ r f g. omega (arith, row_whole r _ f g))
              | inr e ↦
                  let n = length-take-le (suc m) bs e.0 in
                  inl (omega arith, λ r f g. omega (arith, length-append (take (suc m) bs) g.0, row_whole r _ f (sym g.1)))
            ];
      }

  -- what is read is a fitting row with just those bytes, or the place where they cease to be one
  abbrev pub Sound : List ℕ → Reading → Type 0
  Sound bs (row k vs) = Fits forms (row k vs) × (row_bytes forms (row k vs) ≡ bs)
  Sound bs (ceases n) = Ceases (Fits forms) (row_bytes forms) bs n

  by_form_sound : (k : ℕ) (bs : List ℕ) → k < length forms → Bytes bs → Sound (k ∷ bs) (by_form k (get_or forms k []) bs)
  by_form_sound k bs known h =
      let ws = get_or forms k [] in
      pick_both (eqb (length bs) (size ws)) _ _ (Sound (k ∷ bs))
      (λ e. let is = values_sound ws bs (eqb-true _ _ e) h in ((known, is.0), ap (λ xs. k ∷ xs) is.1))
      (λ e. ceases_after k _ bs known h (grind (arith, nat_tests)))

  pub reading_sound : (bs : List ℕ) → 0 < length forms → Bytes bs → Sound bs (reading forms bs)
  reading_sound [] some h = record { begun = some_row some; stuck = inr (refl, λ r f g. omega (arith, row_whole r _ f g)) }
  reading_sound (k ∷ bs) some h =
      pick_both (ltb k (length forms)) _ _ (Sound (k ∷ bs))
      (λ e. by_form_sound k bs (ltb-true _ _ e) h.1)
      (λ e. record {
        begun = some_row some;
        stuck = inl (omega arith, λ r f g. omega (arith, ltb-false _ _ e, row_whole r _ f (sym g.1)));
      })

  -- where bytes cease to be a row they cease to be one of the things that rows stand for, if each fitting row stands for one
  pub cease_as :
      {A : Type 0} (to : A → Reading) → ((r : Reading) → Fits forms r → (a : A) × (to a ≡ r)) → 0 < length forms →
      (bs : List ℕ) (n : ℕ) → Bytes bs → reading forms bs ≡ ceases n →
      Only (Ceases (λ a. Fits forms (to a)) (λ a. row_bytes forms (to a)) bs) n
  cease_as to onto some bs n h e =
      let c : Ceases (Fits forms) (row_bytes forms) bs n = subst (Sound bs) e (reading_sound bs some h) in
      let a = onto c.begun.0 c.begun.1 in
      ceases_once _ _ bs n (record {
        begun = (a.0, rw a.1 c.begun.1, rw a.1 c.begun.2);
        stuck = elim c.stuck [ inl s ↦ inl (s.0, λ a. s.1 (to a)) | inr s ↦ inr (s.0, λ a. s.1 (to a)) ];
      })
