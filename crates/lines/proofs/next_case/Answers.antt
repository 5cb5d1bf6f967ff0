-- What came is the prefix, and then the first bytes of the space.
use Rattle.std.proofs.Common.{rules, arith, ◌≡◌, ◌≤◌, ◌<◌, ℕ, List, ◌++◌, length, take}
use Rattle.std.specs.Prelude.{Option}
use Rattle.std.specs.Int.{w16, from_le_bytes}
use Rattle.std.specs.Io.KnownBytes.{Consumes, IsAtEnd}
use Rattle.std.proofs.KnownBytes.{Consumes-trans}
use lib.Seq.{take-append-le, length-take-le}
use Rattle.lines.specs.Streams.{CaseRead}
use Rattle.lines.proofs.next_case.Goals as goal

-- a prefix was read, and then the first bytes of a part
reads : (before between after : Option (List ℕ)) (prefix : List ℕ) (long n : ℕ) (part rest : List ℕ) → length prefix ≡ 2 → long ≡ from_le_bytes w16 prefix → length part ≡ long → n ≤ length part
    → Consumes before between prefix → Consumes between after (take n part) → (n < length part → IsAtEnd after) → CaseRead before after long (take n (part ++ rest))
reads before between after prefix long n part rest two announces fits within first then ends =
    let same : take n (part ++ rest) ≡ take n part = take-append-le n part rest within in
    let count : length (take n part) ≡ n = length-take-le n part within in
    rw same (record {
      prefix = prefix;
      two = two;
      announces = announces;
      consumed = Consumes-trans before between after prefix (take n part) first then;
      within = omega arith;
      ends = λ h. ends (omega arith);
    })

pub returns-clause-case : goal.returns-clause-case
returns-clause-case g c =
    let read = c.in_ok-count.ensures in
    reads _ _ _ c.in-Some.prefix _ _ c.read_full.new.buffer _ (search rules) c.from_le_bytes-length.ensures (search rules) read.within (search rules) read.bytes read.end
