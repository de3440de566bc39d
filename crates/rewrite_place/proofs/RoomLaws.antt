-- What counting asks of the room to keep roles, and what its counts say of an area with less room.
-- Assumes nothing.
use Rattle.std.proofs.Common.{◌≡◌, ℕ, ◌+◌, ◌-◌, ◌*◌, ◌≤◌, ◌<◌, length, arith}
use Rattle.std.specs.Prelude.{IfSome}
use mathlib.Core.Logic.{⊎_elim}
use Rattle.ground.proofs.BoolLaws.{lt-or-le}
use Rattle.table.specs.Believed.Table.{Table}
use Rattle.rewrite_rules.specs.Believed.Rewriting.{size_of}
use Rattle.rewrite_derive.specs.Derive.{Room}
use Rattle.rewrite_count.specs.Parts.{length_with, CountedTo, RoomFor}
use Rattle.rewrite_count.specs.declared.Count.{Count}
use Rattle.rewrite_count.specs.declared.fields.Fields.{Fields}
use Rattle.rewrite_count.specs.declared.scratch.Scratch.{Scratch}
use Rattle.rewrite_count.proofs.ScratchLaws.{of-kept}

-- where roles are kept there is room to keep them
pub room-kept-for : {f : Fields} {s : Scratch} → Room f.mask_count s.trees f.masks.now s.pairs.now s.marks.now s.links.now
    → IfSome s.kept (λ found. let roles = f.roles.now.end - f.roles.now.first in
    (length found ≡ 32) × (2 * (roles * f.mask_count) ≤ length s.pairs.now) × (roles * (f.mask_count + 1) ≤ length s.marks.now))
    → RoomFor f s
room-kept-for {f} {s} r h =
    let roles = f.roles.now.end - f.roles.now.first in
    record {
      room = r;
      for-kept = λ e.
          let z = of-kept s (λ found. (length found ≡ 32) × (2 * (roles * f.mask_count) ≤ length s.pairs.now) × (roles * (f.mask_count + 1) ≤ length s.marks.now)) h e in
          record { for-pairs = z.1; for-marks = z.2 };
    }

-- counts that are a table's, or too many for the room, are that of any smaller room
pub counted-within : {τ : Table} {room less : ℕ} {k : Count} → less ≤ room → CountedTo τ room k → CountedTo τ less k
unfolding size_of
counted-within {τ} {room} {less} {k} h q =
    record {
      few = q.few;
      few-rows = q.few-rows;
      exact = λ l. q.exact (omega arith);
      over = λ l.
          ⊎_elim (λ (a : room < length_with k.entries k.rows). omega (arith, q.over a))
          (λ (a : length_with k.entries k.rows ≤ room). let e = q.exact a in omega (arith, e.0, e.1)) (lt-or-le room (length_with k.entries k.rows));
    }
