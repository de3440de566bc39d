-- What a caller that has an accepted rota's layout knows, in the layout's own words.
-- Assumes nothing.
use Prim.Native.Nat.{ℕ}
use mathlib.Core.Path.{◌≡◌, ap}
use mathlib.Core.List.{List}
use Rattle.ground.specs.Believed.Outcome.{given}
use Rattle.rota.specs.Believed.RotaBytes.{header_length, roles_at, user_rows_at, permission_rows_at}
use Rattle.rota.specs.Inside.{layout_of, layout_outcome, Located}
use Rattle.rota.specs.declared.Layout.{Layout}
use Rattle.rota.proofs.RotaFine.{RotaFine, rota-fine}
use Rattle.rota.proofs.CountsLaws.{CountsAre, counts-are}
use Rattle.rota.proofs.ReadLaws.{located}

pub located-by : (s : List ℕ) (l : Layout) → given l ≡ layout_outcome s → Located s l
located-by s l e = let z = located s l e in record { accepted = z.0; layout = z.1 }

module _ (s : List ℕ) (l : Layout) (w : Located s l) where
  pub fine : RotaFine s
  fine = rota-fine s w.accepted

  pub counted : CountsAre s l.counts
  unfolding layout_of
  counted = counts-are s l.counts (ap (λ (x : Layout). x.counts) w.layout)

  pub hours-at : l.hours_at ≡ header_length s
  unfolding layout_of
  hours-at = ap (λ (x : Layout). x.hours_at) w.layout

  pub roles-at : l.roles_at ≡ roles_at s
  unfolding layout_of
  roles-at = ap (λ (x : Layout). x.roles_at) w.layout

  pub user-rows-at : l.user_rows_at ≡ user_rows_at s
  unfolding layout_of
  user-rows-at = ap (λ (x : Layout). x.user_rows_at) w.layout

  pub permission-rows-at : l.permission_rows_at ≡ permission_rows_at s
  unfolding layout_of
  permission-rows-at = ap (λ (x : Layout). x.permission_rows_at) w.layout
