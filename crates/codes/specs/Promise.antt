-- What is promised of the desk and of guessing. Each is a statement, a type whose proof is owed. Assumes nothing.
use Rattle.std.specs.Prelude.{◌≡◌, ℕ, suc, ◌-◌, ◌<◌, ◌≤◌, true, false, ◌≢◌, List, [], ◌∷◌, length}
use Rattle.codes.specs.Codes.{Game, how_many, told_of, enough, does, fewest, best}
use Rattle.codes.specs.Calls.{Call, Answer, Asked, Limits, codes_left, among, turned, after, answers}

-- the games that are taken
abbrev pub Taken : Game → Type 0
Taken g = (0 < g.pegs) × (g.pegs ≤ 8) × (0 < g.colours) × (g.colours ≤ 16) × (how_many g ≤ 256)

-- THE MAIN PROMISE. A desk is what the contracts of opening and calling say of its memory and of its answers. For every game and
-- every list of calls it answers as the written desk does: how many codes are left, which, and with how few guesses more any of
-- them can be named, whatever is told, over all ways to guess; and a call that is turned away leaves its memory as it was
pub record Memory : Type 0 where
  pub words : List ℕ

pub record Desk : Type 0 where
  pub opened : Limits → Game → Memory
  pub next : Memory → Call → Memory
  pub says : Memory → Call → Answer

unfoldable pub told_by : Desk → Memory → List Call → List Answer
told_by d m [] = []
told_by d m (c ∷ cs) = d.says m c ∷ told_by d (d.next m c) cs

unfoldable pub left_by : Desk → Memory → List Call → Memory
left_by d m [] = m
left_by d m (c ∷ cs) = left_by d (d.next m c) cs

unfoldable pub ran : Limits → Game → List Asked → List Call → List Asked
ran l g as' [] = as'
ran l g as' (c ∷ cs) = ran l g (after l g as' c) cs

unfoldable pub Right : Desk → Type 0
Right d = (l : Limits) (g : Game) (cs : List Call) → l.guesses ≤ 64 → Taken g → told_by d (d.opened l g) cs ≡ answers l g [] cs

unfoldable pub RefusalKeeps : Desk → Type 0
RefusalKeeps d =
    (l : Limits) (g : Game) (cs : List Call) (c : Call) → l.guesses ≤ 64 → Taken g → 0 < turned l g (ran l g [] cs) c →
    d.next (left_by d (d.opened l g) cs) c ≡ left_by d (d.opened l g) cs

-- a way to guess chooses each guess by nothing but what was told. If k guesses are enough there is one that names every code left
-- in as many, and if they are not, every way fails for some code
pub data Names (g : Game) (way : List Asked → ℕ) : ℕ → List Asked → ℕ → Type 0 where
  hit : {k : ℕ} {as' : List Asked} {c : ℕ} → way as' ≡ c → Names g way (suc k) as' c
  miss :
      {k : ℕ} {as' : List Asked} {c : ℕ} → way as' ≢ c →
      Names g way k (record { guess = way as'; told = told_of g c (way as') } ∷ as') c → Names g way (suc k) as' c

unfoldable pub AWay : Type 0
AWay =
    (g : Game) (k : ℕ) (as' : List Asked) → Taken g → enough g k (codes_left g as') ≡ true →
    (way : List Asked → ℕ) × ((c : ℕ) → among c (codes_left g as') ≡ true → Names g way k as' c)

unfoldable pub NoWay : Type 0
NoWay =
    (g : Game) (k : ℕ) (as' : List Asked) (way : List Asked → ℕ) → Taken g → ((bs : List Asked) → way bs < how_many g) →
    enough g k (codes_left g as') ≡ false →
    (c : ℕ) × (among c (codes_left g as') ≡ true) × (Names g way k as' c → ⊥)

-- more guesses, or fewer codes, are never worse
unfoldable pub MoreGuesses : Type 0
MoreGuesses = (g : Game) (k : ℕ) (cs : List ℕ) → enough g k cs ≡ true → enough g (suc k) cs ≡ true

unfoldable pub FewerCodes : Type 0
FewerCodes =
    (g : Game) (k : ℕ) (cs ds : List ℕ) → ((c : ℕ) → among c ds ≡ true → among c cs ≡ true) → enough g k cs ≡ true →
    enough g k ds ≡ true

-- a truthful answer never shuts out the code
unfoldable pub NeverOut : Type 0
NeverOut =
    (g : Game) (as' : List Asked) (c q : ℕ) → among c (codes_left g as') ≡ true →
    among c (codes_left g (record { guess = q; told = told_of g c q } ∷ as')) ≡ true

-- what is told of two codes is the same either way round, and all right is told of the code itself only
unfoldable pub EitherWay : Type 0
EitherWay = (g : Game) (c q : ℕ) → told_of g c q ≡ told_of g q c

unfoldable pub AllRight : Type 0
AllRight = (g : Game) (c q : ℕ) → Taken g → c < how_many g → q < how_many g → (told_of g c q).right ≡ g.pegs → c ≡ q

-- guesses in another order leave the same codes
unfoldable pub AnyOrder : Type 0
AnyOrder = (g : Game) (a b : Asked) (as' : List Asked) → codes_left g (a ∷ (b ∷ as')) ≡ codes_left g (b ∷ (a ∷ as'))

-- the fewest are enough, the advised guess does, and no smaller guess does
unfoldable pub Advice : Type 0
Advice =
    (g : Game) (cs : List ℕ) (q : ℕ) → Taken g → 0 < length cs → ((c : ℕ) → among c cs ≡ true → c < how_many g) →
    (enough g (fewest g cs) cs ≡ true) × (does g (fewest g cs - 1) cs (best g cs) ≡ true)
    × (q < best g cs → does g (fewest g cs - 1) cs q ≡ false)
