-- Two minutes that a rota does not tell apart: what the steps of a sweep over minutes promise each other.
use Rattle.std.specs.Prelude.{ℕ, ◌≡◌}
use Rattle.hours.specs.declared.HoursRef.{HoursRef}
use Rattle.rota.specs.Believed.Rota.{Rota, ref_on}

-- no hours tell the two minutes apart
abbrev pub Alike : Rota → ℕ → ℕ → Type 0
Alike ρ s t = (h : HoursRef) → ref_on ρ h s ≡ ref_on ρ h t
