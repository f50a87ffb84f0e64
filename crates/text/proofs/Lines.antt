-- How the bytes of a line are read, one after another. Assumes nothing.
use Rattle.std.proofs.Common.{◌≡◌, ℕ, ◌+◌, ◌<◌, List, [], ◌∷◌, ◌++◌, length, drop, Ok, refl, ap, append_assoc, arith}
use Rattle.std.proofs.lemmas.List.{length-drop, drop-drop}
use Rattle.text.specs.Lines.{Line, skipped, row, feedback, ceases, front_byte, before, byte_then, bytes_from}

before_append : (bs cs : List ℕ) (l : Line) → before (bs ++ cs) l ≡ before bs (before cs l)
before_append bs cs skipped = refl
before_append bs cs (row ds) = ap row (append_assoc bs cs ds)
before_append bs cs (feedback p c code guess) = refl
before_append bs cs (ceases n) = refl

bytes_more : (at : ℕ) (cs : List ℕ) → 0 < length cs → bytes_from at cs ≡ byte_then at (front_byte cs) (bytes_from (at + 3) (drop 3 cs))
bytes_more at [] some = absurd (omega arith)
bytes_more at (s ∷ []) some = refl
bytes_more at (s ∷ (h ∷ [])) some = refl
bytes_more at (s ∷ (h ∷ (l ∷ cs))) some = refl

bytes_from-drop :
    (at : ℕ) (cs : List ℕ) → at < length cs →
    bytes_from at (drop at cs) ≡ byte_then at (front_byte (drop at cs)) (bytes_from (at + 3) (drop (at + 3) cs))
bytes_from-drop at cs some = rw (← drop-drop 3 at cs) (bytes_more at (drop at cs) (simp length-drop (omega arith)))

-- bytes and the one at a place, before those behind it
pub before_more :
    (bs : List ℕ) (b at : ℕ) (cs : List ℕ) → front_byte (drop at cs) ≡ Ok b → at < length cs →
    before (bs ++ b ∷ []) (bytes_from (at + 3) (drop (at + 3) cs)) ≡ before bs (bytes_from at (drop at cs))
before_more bs b at cs e some = rw (bytes_from-drop at cs some, e) (before_append bs (b ∷ []) (bytes_from (at + 3) (drop (at + 3) cs)))
