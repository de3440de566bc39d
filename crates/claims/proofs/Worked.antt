-- What document 01 marks for proof under "Worked minutes", and what items 3, 4 and 5 of document 02 give on S, as one statement; and the table of
-- S, the small rota of document 01.
-- Assumes nothing.
use Prim.Native.Nat.{ℕ, ◌<◌}
use mathlib.Core.Path.{◌≡◌, refl, ap, ap₂, ◌∙◌}
use mathlib.Core.List.{List, [], ◌∷◌, ◌++◌, map, Memᴰ}
use native.Mathlib.Omega.{arith}
use lib.ListN.{length}
use Rattle.ground.specs.Believed.Judgement.{refuse, ◌or_else◌, in_turn}
use Rattle.ground.specs.Believed.Search.{any, count_of, any_below, first_there, lowest_below, count_below}
use Rattle.ground.specs.Believed.Sequence.{list_of, All}
use Rattle.endian.specs.Believed.Numbers.{u16_at, u32_at}
use Rattle.bitset.specs.Believed.Sets.{has, set_of, insert, remove, difference, count}
use Rattle.minutes.specs.Believed.Minutes.{E, Window, in_phase, covers}
use Rattle.calendar.specs.declared.Date.{Date}
use Rattle.calendar.proofs.CalendarLaws.{leap-day, leap-day-date, last-minute-date}
use Rattle.hours.specs.Believed.Hours.{holds, ref_holds, ref_of, dangling}
use Rattle.hours.specs.Believed.HoursBytes.{record_at, pairs_before, hours_from}
use Rattle.hours.specs.Believed.HoursRefusals.{earliest, pair_judged, hours_judged, record_judged}
use Rattle.policy.specs.Believed.Policy.{holds_any}
use Rattle.policy.specs.Believed.Steady.{lapses, steady_over}
use Rattle.rota.specs.Believed.Rota.{Rota, policy_of, enabled, assigned, has_user, has_permission, through, answer}
use Rattle.rota.specs.Believed.RotaBytes.{header_length, rota_of}
use Rattle.rota.specs.Believed.RotaRefusals.{counts_over, format_read, header_judged, role_judged, row_bad, row_falls, row_judged, rota_judged}
use Rattle.rota.specs.RotaWell.{RotaWell}
use Rattle.rota.proofs.RotaTheorems.{accepted-well}
use Rattle.rota.specs.Worked.{small}
use Rattle.rota.proofs.Worked.{small-accepted, worked-minutes}
use Rattle.table.specs.Believed.Table.{Entry, Row}
use Rattle.table_board.specs.Believed.Board.{permissions_at, board_of, rows_at, shown_at}
use Rattle.rewrite_rules.specs.Believed.Cuts.{insert_cut, sort_into, gaps_from, gaps}
use Rattle.rewrite_rules.specs.Believed.Distinct.{add_new, add_all, place_of}
use Rattle.rewrite_rules.specs.Believed.Joined.{attach, join_rows}
use Rattle.rewrite_rules.specs.Believed.Rewriting.{hours_cuts, pair_cuts, pairs_cuts, era_cuts, cell_cuts, fields_of, fields, kept_as, unjoined, rewrite, size_of, rewrite_judged}
use Rattle.minutes.specs.First.{first_in}
use Rattle.rewrite_rules.specs.Masks.{mask_of, slot_of, assigned_in, users_in, permissions_in, kept_in}
use Rattle.rewrite_rules.proofs.Joining.{joined-entries}
use Rattle.rewrite_rules.proofs.RewritingTheorems.{kept-mask, worked-field}
use Rattle.rewrite_rules.specs.Roles.{entries_from, rows_from, next_entries, mark_of, derived_from, marks_from, rows_marked}
use Rattle.rewrite_rules.proofs.RoleByRole.{entries-by-role, rows-by-role}
use Rattle.rewrite_rules.proofs.RoleMarks.{Agree, agree-masks, role-entries, role-rows}
use Rattle.machine.specs.Believed.Machine.{staying, state_judged, advance_judged, open_judged, call_judged, given_by, left_by, settled, step_by, machine_step}
use Rattle.claims.specs.Worked.{Worked}
use Rattle.claims.proofs.BoardAgreed.{by-rota}

-- opens every definition that an example computes through
unfoldable opened : Unit {0}
unfolding E in_phase any any_below first_there lowest_below count_below list_of u16_at u32_at holds ref_holds ref_of dangling record_at pairs_before hours_from earliest pair_judged hours_judged record_judged refuse ◌or_else◌ in_turn enabled assigned has_user has_permission through answer header_length rota_of counts_over format_read header_judged role_judged row_bad row_falls row_judged rota_judged holds_any has set_of insert remove difference count insert_cut sort_into gaps_from gaps add_new add_all place_of hours_cuts pair_cuts pairs_cuts era_cuts cell_cuts fields_of fields first_in mask_of slot_of assigned_in users_in permissions_in kept_in next_entries mark_of derived_from marks_from rows_marked lapses steady_over staying state_judged advance_judged open_judged call_judged given_by left_by settled step_by machine_step
opened = tt

abbrev ρ : Rota
ρ = rota_of small

well : RotaWell ρ
well = accepted-well small small-accepted.1

-- ---- the table of S

each : (fs : List Window) → ((f : Window) → Memᴰ f fs → kept_as ρ 0 f ≡ kept_in ρ 0 (mask_of ρ f)) → All (λ (f : Window). kept_as ρ 0 f ≡ kept_in ρ 0 (mask_of ρ f)) fs
each [] h = tt
each (f ∷ fs) h = (h f (Memᴰ.head refl), each fs (λ g m. h g (Memᴰ.tail m)))

one-role : 0 < length ρ.roles
unfolding opened
one-role = omega arith

agree : Agree ρ 0 (kept_in ρ 0) (fields ρ) (map (mask_of ρ) (fields ρ))
agree = agree-masks ρ 0 (kept_in ρ 0) (mask_of ρ) (fields ρ) (each (fields ρ) (λ f m. kept-mask well 0 one-role f m))

abbrev entry : ℕ → ℕ → ℕ → Entry
entry r u p = record { source = r; users = u; permissions = p }

abbrev row : ℕ → ℕ → ℕ → ℕ → ℕ → Row
row d b e o l = record { derived = d; window = record { begin = b; end = e; offset = o; length = l } }

pub small-entries : (rewrite ρ).entries ≡ entry 0 1 1 ∷ entry 0 3 1 ∷ entry 0 2 1 ∷ []
unfolding opened entries_from
small-entries = joined-entries ρ ∙ entries-by-role ρ ∙ ap (λ (l : List Entry). l ++ []) (role-entries ρ 0 (kept_in ρ 0) (map (mask_of ρ) (fields ρ)) agree)

-- one row for each kept field
small-unjoined : (unjoined ρ).rows
    ≡ row 0 0 10 0 2 ∷ row 0 0 10 2 2 ∷ row 0 0 10 6 1 ∷ row 0 0 10 7 1 ∷ row 0 10 20 0 2 ∷ row 1 10 20 2 2 ∷ row 2 10 20 4 2 ∷ row 1 10 20 6 1 ∷ row 0 10 20 7 1
    ∷ row 2 20 40 2 2 ∷ row 2 20 40 4 2 ∷ row 2 20 40 6 1 ∷ []
unfolding opened rows_from
small-unjoined = rows-by-role ρ ∙ ap (λ (l : List Row). l ++ []) (role-rows ρ 0 (kept_in ρ 0) (map (mask_of ρ) (fields ρ)) agree 0)

-- those that touch are one: 0 to 2 and 2 to 4, 6 to 7 and 7 to 8 of the first era, and the three of the last
abbrev small_rows : List Row
small_rows =
    row 0 0 10 0 4 ∷ row 0 0 10 6 2 ∷ row 0 10 20 0 2 ∷ row 1 10 20 2 2 ∷ row 2 10 20 4 2 ∷ row 1 10 20 6 1 ∷ row 0 10 20 7 1 ∷ row 2 20 40 2 5 ∷ []

pub small-rows : (rewrite ρ).rows ≡ small_rows
unfolding rewrite join_rows attach
small-rows = ap join_rows small-unjoined

pub small_size : size_of (rewrite ρ) ≡ 195
unfolding size_of
small_size = omega (arith, ap length small-entries, ap length small-rows)

-- S needs 195 bytes, and 194 give 20
pub small-needs : (rewrite_judged small 195 ≡ 0) × (rewrite_judged small 194 ≡ 20)
unfolding rewrite_judged opened
small-needs = (rw small_size refl, rw small_size refl)

-- ---- its board: the rows that cover the minute, and the rota's sets

small-board : (t : ℕ) → t < E
    → shown_at (rewrite ρ) t
    ≡ record { rows = count_of (λ (w : Row). covers ρ.cycle w.window t) small_rows; permissions = board_of (policy_of ρ) t }
unfolding rows_at rewrite unjoined
small-board t l =
    ap₂ (λ (n : ℕ) (m : List ℕ). record { rows = n; permissions = m }) (ap (count_of (λ (w : Row). covers ρ.cycle w.window t)) small-rows)
    (by-rota ρ well t l)

pub worked : Worked
unfolding opened count_of covers permissions_at board_of
worked =
    record {
      minutes = worked-minutes;
      opens-1 = refl;
      opens-0 = refl;
      advances-4 = refl;
      opens-0-at-1 = refl;
      advances-11 = refl;
      lists-8 = ap length small-rows;
      needs-195 = small-needs.0;
      refused-194 = small-needs.1;
      board-3 = small-board 3 (omega arith);
      board-12 = small-board 12 (omega arith);
      board-37 = small-board 37 (omega arith);
      era-3-to-5 = worked-field;
      leap-day-is = leap-day;
      leap-day-sunday = ap (λ (d : Date). d.weekday) leap-day-date;
      last-sunday = ap (λ (d : Date). d.weekday) last-minute-date;
    }
