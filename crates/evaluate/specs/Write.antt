-- Writing tokens into a buffer from a position on. Assumes nothing.
use Rattle.std.specs.Prelude.{ℕ, ◌+◌, ◌≤◌, ◌≡◌, List, ◌++◌, length, take, drop}

-- the buffer has room for the tokens from a position on
pub record Room (buffer : List ℕ) (at : ℕ) (tokens : List ℕ) : Type 0 where
  pub fits : at + length tokens ≤ length buffer

-- The buffer afterwards holds the tokens from the position on, and is elsewhere as it was; the position behind them is given back.
pub record Wrote (before : List ℕ) (at : ℕ) (tokens after : List ℕ) (behind : ℕ) : Type 0 where
  pub place : behind ≡ at + length tokens
  pub content : after ≡ take at before ++ (tokens ++ drop (at + length tokens) before)
