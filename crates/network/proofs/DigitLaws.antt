-- Numbers by their lowest digit: the digit is 0 or 1, an operation acts on it and on the half, and a remainder takes one
-- digit more. Each bit law is proved by these, over the width.
-- Assumes nothing.
use Rattle.std.proofs.Common.{◌≡◌, ℕ, zero, suc, ◌+◌, ◌*◌, ◌/◌, ◌%◌, ◌^◌, ◌<◌, min, max, ◌⊎◌, sym, refl, ap, ◌∙◌, ap₂, inl, inr, add-one, arith}
use lib.Pow.{mod-pow-add}
use lib.Bits.{bit_and, bit_or, bit_xor, differ, and_step, or_step, xor_step}

below_two : (d : ℕ) → d < 2 → (d ≡ 0) ⊎ (d ≡ 1)
below_two zero h = inl refl
below_two (suc zero) h = inr refl
below_two (suc (suc d)) h = absurd (omega arith)

pub digit : (n : ℕ) → (n % 2 ≡ 0) ⊎ (n % 2 ≡ 1)
digit n = below_two (n % 2) (omega arith)

pub mod_digit : (w n : ℕ) → n % 2 ^ suc w ≡ (n / 2 % 2 ^ w) * 2 + n % 2
mod_digit w n = ap (λ (e : ℕ). n % 2 ^ e) (sym (add-one w)) ∙ mod-pow-add n w 1

-- an operation, at halves and digits that are known
module _ (op f : ℕ → ℕ → ℕ) (step : (a b : ℕ) → op a b ≡ op (a / 2) (b / 2) * 2 + f (a % 2) (b % 2)) where
  op_by : (a b p q x y : ℕ) → a / 2 ≡ p → b / 2 ≡ q → a % 2 ≡ x → b % 2 ≡ y → op a b ≡ op p q * 2 + f x y
  op_by a b p q x y i j e g = step a b ∙ ap₂ (λ (m n : ℕ). op m n * 2 + f (a % 2) (b % 2)) i j ∙ ap₂ (λ (m n : ℕ). op p q * 2 + f m n) e g

  op_at : (a b x y : ℕ) → a % 2 ≡ x → b % 2 ≡ y → op a b ≡ op (a / 2) (b / 2) * 2 + f x y
  op_at a b x y e g = op_by a b (a / 2) (b / 2) x y refl refl e g

pub and_by : (a b p q x y : ℕ) → a / 2 ≡ p → b / 2 ≡ q → a % 2 ≡ x → b % 2 ≡ y → bit_and a b ≡ bit_and p q * 2 + min x y
and_by = op_by bit_and min and_step

pub or_by : (a b p q x y : ℕ) → a / 2 ≡ p → b / 2 ≡ q → a % 2 ≡ x → b % 2 ≡ y → bit_or a b ≡ bit_or p q * 2 + max x y
or_by = op_by bit_or max or_step

pub and_at : (a b x y : ℕ) → a % 2 ≡ x → b % 2 ≡ y → bit_and a b ≡ bit_and (a / 2) (b / 2) * 2 + min x y
and_at = op_at bit_and min and_step

pub or_at : (a b x y : ℕ) → a % 2 ≡ x → b % 2 ≡ y → bit_or a b ≡ bit_or (a / 2) (b / 2) * 2 + max x y
or_at = op_at bit_or max or_step

pub xor_at : (a b x y : ℕ) → a % 2 ≡ x → b % 2 ≡ y → bit_xor a b ≡ bit_xor (a / 2) (b / 2) * 2 + differ x y
xor_at = op_at bit_xor differ xor_step
