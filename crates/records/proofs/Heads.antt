-- Laws of heads: header and label records.
use mathlib.Core.Path.{◌≡◌, ap}
use mathlib.Core.Bool.{Bool, true, false, cond}
use mathlib.Core.List.{List}
use Prim.Native.Nat.{ℕ, ◌+◌, ◌*◌, ◌≤◌}
use native.Mathlib.Omega.{arith}
use lib.Dec.{eqb}
use Rattle.cases.specs.declared.Header.{Header}
use Rattle.cases.specs.File.{header_size, label_records, transitions_start, label_limit}
use Rattle.cases.specs.internal.Checks.{longest_header, CountsFit}
use Rattle.records.specs.Replaced.{with_number, head_for}

-- a choice between two numbers is no more than a number that both are not above
most : (b : Bool) (x y z : ℕ) → x ≤ z → y ≤ z → cond b x y ≤ z
most true x y z p q = p
most false x y z p q = q

-- a head has few bytes
pub start_few : (h : Header) → CountsFit h → transitions_start h ≤ longest_header + 8 * label_limit
unfolding header_size label_records
start_few h c = omega (arith, most (eqb h.version 2) 22 20 22 (omega arith) (omega arith), most (eqb h.version 2) h.labels 0 h.labels (omega arith) (omega arith), c.few_labels)

-- the three numbers that are put
pub head_put : (h : Header) (k : ℕ) (b : List ℕ) → h.transitions_at ≡ transitions_start h
    → with_number (with_number (with_number b 4 k) 16 (h.transitions_at + 6 * k)) 18 (h.transitions_at + 6 * k + 4 * h.actions) ≡ head_for h k b
unfolding head_for
head_put h k b e = ap (λ (at : ℕ). with_number (with_number (with_number b 4 k) 16 (at + 6 * k)) 18 (at + 6 * k + 4 * h.actions)) e
