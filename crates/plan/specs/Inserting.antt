-- What putting a neighbour in its place does to the list. These are states of code.
use Rattle.std.specs.Prelude.{ℕ, suc, ◌+◌, ◌≤◌, ◌<◌, Option, Some, None, Result, MatchResult, List, ◌++◌, ◌⊎◌, ◌≡◌, length, get_or, take, drop}
use Rattle.corners.specs.Lists.{part}
use Rattle.plan.specs.Rising.{insertion}

-- where t stands in a list, or where it belongs: behind smaller entries and before larger ones
abbrev pub Placed : List ℕ → ℕ → Result ℕ ℕ → Type 0
Placed xs t r =
    MatchResult r (λ i. (i < length xs) × (get_or xs i 0 ≡ t))
    (λ i. (i ≤ length xs) × ((k : ℕ) → k < i → get_or xs k 0 < t) × ((k : ℕ) → i ≤ k → k < length xs → t < get_or xs k 0))

-- the list with xs at the places from `from` on, and as it was before and behind them
abbrev pub spliced : List ℕ → ℕ → List ℕ → List ℕ
spliced list from xs = take from list ++ (xs ++ drop (from + length xs) list)

-- t stands in its place among the entries from `from` up to m; or there is no room for it, which is new
abbrev pub Inserted : List ℕ → ℕ → ℕ → ℕ → Option ℕ → List ℕ → Type 0
Inserted list from m t (Some k) exit =
    (k ≡ from + length (insertion t (part list from m))) × (k ≤ length list) × ((k ≡ m) ⊎ (k ≤ 32768)) × (exit ≡ spliced list from (insertion t (part list from m)))
Inserted list from m t None exit =
    (suc m ≡ from + length (insertion t (part list from m))) × ((length list ≤ m) ⊎ (32768 ≤ m)) × (exit ≡ list)
