-- How many codes there are, as a power, and how it grows with the pegs. Assumes nothing.
use Rattle.std.proofs.Common.{◌≡◌, ℕ, zero, suc, ◌*◌, ◌^◌, ◌<◌, ◌≤◌, sym, ap, ◌∙◌}
use native.Mathlib.Nat.{pow-zero, pow-succ', pow-le-pow_right}
use Rattle.codes.specs.Codes.{power}

pub power_is : (b n : ℕ) → power b n ≡ b ^ n
unfolding power
power_is b zero = sym (pow-zero b)
power_is b (suc n) = ap (λ m. b * m) (power_is b n) ∙ sym (pow-succ' b n)

pub power_mono : (b m n : ℕ) → 0 < b → m ≤ n → power b m ≤ power b n
power_mono b m n some le = rw (power_is b m, power_is b n) (pow-le-pow_right some le)
