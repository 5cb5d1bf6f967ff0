-- The nodes of a formula table that can be read into shapes.
use Rattle.std.specs.Prelude.{◌≡◌, true, ◌||◌, ℕ, ◌<◌, ◌≤◌, eqb}
use Rattle.cases.specs.declared.Node.{Node}

-- a node of a table of f nodes with m masks: its kind is known, a variable's argument is at most f, and a box or diamond has a mask
abbrev pub Readable : ℕ → ℕ → Node → Type 0
Readable m f x = (x.kind ≤ 8) × (x.kind ≡ 6 → x.arg ≤ f) × ((eqb x.kind 4 || eqb x.kind 5) ≡ true → x.arg < m)
