-- Who holds a permission by the rows of an accepted table, and how far.
--     holds_by, by-holds                      a user holds a permission exactly when a row gives one
--     reach-row, reach-on                     how far one row reaches, and the row that goes on where it stops
--     held_none, held_same, held_more         no role yet, and one role more: its row adds nobody, or some
--     held_all, held-everyone                 all roles, or as many as it takes
--     of-everyone                             those of everyone
-- Assumes nothing.
use Prim.Native.Nat.{ℕ, ◌+◌, ◌-◌, ◌*◌, ◌%◌, ◌^◌, ◌≤◌, ◌<◌, min}
use mathlib.Core.Path.{◌≡◌, refl, sym, ◌∙◌, ap}
use mathlib.Core.Logic.{⊎_elim}
use mathlib.Core.Bool.{Bool, true, false, ◌&&◌, ◌||◌, not}
use mathlib.Core.List.{List}
use Rattle.std.proofs.Common.{None, Some}
use native.Mathlib.Nat.{le_refl, eq-or-lt_of_le}
use native.Mathlib.Omega.{arith}
use lib.Pow.{pow_pos}
use borrow.Author.Tests.{eq-eqb}
use lib.Dec.{eqb}
use Rattle.ground.specs.Believed.Search.{any_below}
use Rattle.ground.proofs.BoolLaws.{and_yes, and_both, and-three, and-all, or_yes, or_left, clash, eq-ext}
use Rattle.ground.proofs.SearchLaws.{any_out, any-stop}
use Rattle.bitset.specs.Believed.Sets.{has, union, intersection, difference}
use Rattle.bitset.proofs.SetLaws.{has-none, has-below, has-union, has-intersection, has-difference, has-not, intersection-lt, ext, set_of-lt, fits-64}
use Rattle.minutes.specs.Believed.Minutes.{E, Window, covers}
use Rattle.minutes.proofs.WindowLaws.{In, covers-in, in-covers}
use Rattle.minutes.proofs.LastingLaws.{lasting-at, lasting-shorter, lasting-on, phase-on, phase-turned}
use Rattle.policy.specs.Held.{HeldAmong}
use Rattle.policy.specs.Believed.Policy.{holds_any, holders_at}
use Rattle.table.specs.Believed.Table.{policy_of}
use Rattle.table.specs.Believed.TableBytes.{cycle_of, users_of, roles_of, rows_of, row_of, table_of}
use Rattle.table.specs.Believed.TableRefusals.{source_of, table_judged}
use Rattle.table.specs.Inside.{Opened, window_given}
use Rattle.table.specs.declared.Counts.{Counts}
use Rattle.table.specs.declared.Window as declared
use Rattle.table.proofs.HeaderLaws.{counts-are}
use Rattle.table.proofs.FineLaws.{TableFine, table-fine}
use Rattle.table_answers.specs.Grants.{covering, owned}
use Rattle.table_answers.proofs.HoldersLaws.{row_has, row-has, holds-is, holders-are}
use Rattle.table_search.specs.Rows.{row_for}
use Rattle.table_search.proofs.StageLaws.{row-found, row-there}
use Rattle.table_holding.specs.Held.{Holds, Gives, HeldBy, Reaching, GoesOn}

-- whoever is in a set and not lost from it is in the other
not-lost : (x y u : ℕ) → u < 64 → difference x y ≡ 0 → has x u ≡ true → has y u ≡ true
not-lost x y u l e h = go (has y u) refl
  where
    go : (b : Bool) → has y u ≡ b → b ≡ true
    go true w = refl
    go false w = clash (has (difference x y) u) (has-difference x y u l ∙ and_both _ _ h (ap not w)) (ap (λ (z : ℕ). has z u) e ∙ has-none u)

-- the set of all numbers below 64 takes nobody away
pub of-everyone : (x : ℕ) {y : ℕ} → x < 2 ^ 64 → y ≡ intersection 18446744073709551615 x → y ≡ x
of-everyone x l e =
    e ∙ ext 64 _ x (intersection-lt 18446744073709551615 x) l
    (λ u k. has-intersection 18446744073709551615 x u k ∙ ap (λ (b : Bool). b && has x u) (has-not 64 0 u (pow_pos 64) k ∙ ap not (has-none u)))

-- the tests of the code: row i has window w and users y
pub went_on : (s : List ℕ) (i t stop era gain : ℕ) (w : declared.Window) → window_given w ≡ (row_of s i).window → w.offset ≡ stop → w.begin ≤ t → era ≤ w.end
    → (y d : ℕ) → y ≡ (owned s i).users → d ≡ difference gain y → d ≡ 0 → GoesOn s i t stop era gain
went_on s i t stop era gain w ew eo b l y d ey ed z =
    record {
      offset = sym (ap (λ (v : Window). v.offset) ew) ∙ eo;
      begun = omega (arith, ap (λ (v : Window). v.begin) ew);
      lasting = omega (arith, ap (λ (v : Window). v.end) ew);
      users = λ u k h. ap (λ (x : ℕ). has x u) (sym ey) ∙ not-lost gain y u k (sym ed ∙ z) h;
    }

module _ (s : List ℕ) (a : table_judged s ≡ 0) where
  fine : TableFine s
  fine = table-fine s a

  -- ---- a user and a row
  pub holds_by : (t u i : ℕ) → Gives s t u i → holds_any (policy_of (table_of s)) t u ≡ true
  holds_by t u i g =
      holds-is s fine t u
      ∙ any-stop (row_has s t u) (rows_of s) i g.below (row-has s fine t u i ∙ and_both (covering s t i) (has (owned s i).users u) g.covering g.member)

  pub by-holds : (t u : ℕ) → holds_any (policy_of (table_of s)) t u ≡ true → (i : ℕ) × Gives s t u i
  by-holds t u h =
      let w = any_out (rows_of s) (row_has s t u) (sym (holds-is s fine t u) ∙ h) in
      let p = and_yes (covering s t w.0) (has (owned s w.0).users u) (sym (row-has s fine t u w.0) ∙ w.2) in
      (w.0, record { below = w.1; covering = p.0; member = p.1 })

  holder : (t u : ℕ) → u < 64 → has (holders_at (policy_of (table_of s)) t) u ≡ holds_any (policy_of (table_of s)) t u
  holder t u l =
      ap (λ (x : ℕ). has x u) (sym (holders-are s fine t)) ∙ has-below 64 (λ v. any_below (rows_of s) (row_has s t v)) u l ∙ sym (holds-is s fine t u)

  users-few : (u : ℕ) → u < (policy_of (table_of s)).users → u < 64
  unfolding table_of
  users-few u k = omega (arith, fine.header.users-most)

  -- from minute t, whose phase is x, row i covers phases p to before q
  row-lasts : (i u t x p q : ℕ) → i < rows_of s → has (owned s i).users u ≡ true → (row_of s i).window.begin ≤ t → x ≡ t % cycle_of s → x ≤ p
      → (row_of s i).window.offset ≤ p → q ≤ (row_of s i).window.offset + (row_of s i).window.length
      → Holds s u (t + (p - x)) (t + (q - x)) (row_of s i).window.end
  row-lasts i u t x p q l m b ex xp op qo =
      record {
        each = λ v k d e g.
            let f = (fine.rows i l).alone in
            let pos : 0 < cycle_of s = fine.header.cycle-some in
            let ph : v % cycle_of s ≡ t % cycle_of s + (v - t) = phase-on (cycle_of s) t v (omega arith) (omega (arith, f.in-cycle)) in
            let y = phase-turned (cycle_of s) v k pos in
            holds_by (v + k * cycle_of s) u i
            (record {
              below = l;
              covering = in-covers (record { from = omega arith; to = g; left = omega (arith, y, ph); right = omega (arith, y, ph) });
              member = m;
            });
      }

  -- ---- how far the users `gain` reach
  module _ (i : ℕ) (l : i < rows_of s) (t x gain : ℕ) (ex : x ≡ t % cycle_of s)
      (m : (u : ℕ) → u < 64 → has gain u ≡ true → has (owned s i).users u ≡ true) where
    pub reach-row : covers (cycle_of s) (row_of s i).window t ≡ true → (stop : ℕ) → stop ≡ (row_of s i).window.offset + (row_of s i).window.length
        → Reaching s t x stop (row_of s i).window.end gain
    reach-row h stop es =
        let f : In (cycle_of s) (row_of s i).window t = covers-in h in
        record {
          lasts = λ u k g.
              lasting-shorter (row-lasts i u t x x stop l (m u k g) f.from ex (le_refl x) (omega (arith, f.left)) (omega arith))
              (omega arith) (le_refl _) (le_refl _);
          after = omega (arith, f.right);
          in-cycle = omega (arith, (fine.rows i l).alone.in-cycle);
        }

    pub reach-on : (far stop era : ℕ) → Reaching s t x far era gain → (row_of s i).window.offset ≡ far → (row_of s i).window.begin ≤ t
        → era ≤ (row_of s i).window.end → stop ≡ far + (row_of s i).window.length → Reaching s t x stop era gain
    reach-on far stop era w eo b e es =
        record {
          lasts = λ u k g.
              lasting-on (w.lasts u k g)
              (lasting-shorter (row-lasts i u t x far stop l (m u k g) b ex (omega (arith, w.after)) (omega arith) (omega arith)) (le_refl _) (le_refl _) e)
              (le_refl era);
          after = omega (arith, w.after);
          in-cycle = omega (arith, (fine.rows i l).alone.in-cycle);
        }

  -- ---- the pass over the roles
  module _ (among t : ℕ) where
    pub held_none : (limit : ℕ) → t < E → t < limit → HeldBy s 0 among t 0 limit E
    held_none limit l m =
        record {
          small = pow_pos 64;
          among-them = λ u k h. clash _ h (has-none u);
          lasts = λ u k h. clash _ h (has-none u);
          all = λ u i k h b g. absurd (omega arith);
          after = m;
          longer = l;
          era-most = le_refl E;
        }

    module _ (r set until era : ℕ) (w : HeldBy s r among t set until era) where
      -- a row of role r or of one below
      by-role : (i : ℕ) → source_of s i < r + 1 → (A : Type 0) → (source_of s i < r → A) → (source_of s i ≡ r → A) → A
      by-role i l A lower same = ⊎_elim (λ (e : source_of s i ≡ r). same e) (λ (b : source_of s i < r). lower b) (eq-or-lt_of_le (omega arith))

      -- whoever role r has at t is in the set already
      pub held_same : ((u i : ℕ) → u < 64 → has among u ≡ true → source_of s i ≡ r → Gives s t u i → has set u ≡ true) → HeldBy s (r + 1) among t set until era
      held_same h =
          record {
            small = w.small;
            among-them = w.among-them;
            lasts = w.lasts;
            all = λ u i k m b g. by-role i b (has set u ≡ true) (λ d. w.all u i k m d g) (λ e. h u i k m e g);
            after = w.after;
            longer = w.longer;
            era-most = w.era-most;
          }

      -- those whom it adds
      pub held_more : (gain x stop end y until' era' : ℕ) → Reaching s t x stop end gain → ((u : ℕ) → u < 64 → has gain u ≡ true → has among u ≡ true)
          → ((u i : ℕ) → u < 64 → has among u ≡ true → source_of s i ≡ r → Gives s t u i → has (union set gain) u ≡ true)
          → t < end → y ≡ union set gain → until' ≡ min until (t + (stop - x)) → era' ≡ min era end → HeldBy s (r + 1) among t y until' era'
      held_more gain x stop end y until' era' g within h e ey eu ee =
          record {
            small = rw ey (unfold union in set_of-lt 64 _);
            among-them = λ u k m. part u k m (has among u ≡ true) (w.among-them u k) (within u k);
            lasts = λ u k m.
                part u k m (Holds s u t until' era') (λ d. lasting-shorter (w.lasts u k d) (le_refl t) (omega arith) (omega arith))
                (λ d. lasting-shorter (g.lasts u k d) (le_refl t) (omega arith) (omega arith));
            all = λ u i k m b q.
                by-role i b (has y u ≡ true)
                (λ d. is u k ∙ or_left (has set u) (has gain u) (w.all u i k m d q))
                (λ d. ap (λ (z : ℕ). has z u) ey ∙ h u i k m d q);
            after = omega (arith, w.after, g.after);
            longer = omega (arith, w.longer);
            era-most = omega (arith, w.era-most);
          }
        where
          is : (u : ℕ) → u < 64 → has y u ≡ (has set u || has gain u)
          is u k = ap (λ (z : ℕ). has z u) ey ∙ has-union set gain u k

          part : (u : ℕ) → u < 64 → has y u ≡ true → (A : Type 0) → (has set u ≡ true → A) → (has gain u ≡ true → A) → A
          part u k m A l r = ⊎_elim l r (or_yes (has set u) (has gain u) (sym (is u k) ∙ m))

      -- every one of those who hold a permission is there
      settled : ((u : ℕ) → u < 64 → has among u ≡ true → holds_any (policy_of (table_of s)) t u ≡ true → has set u ≡ true)
          → HeldAmong (policy_of (table_of s)) (cycle_of s) among t set until era
      settled h =
          record {
            is =
                ext 64 set _ w.small (intersection-lt among _)
                (λ u k.
                eq-ext _ _
                (λ m. both u k ∙ and_both _ _ (w.among-them u k m) (lasting-at (w.lasts u k m) t (le_refl t) w.after w.longer))
                (λ m. let p = and_yes (has among u) (holds_any (policy_of (table_of s)) t u) (sym (both u k) ∙ m) in h u k p.0 p.1));
            lasts = λ u k m. w.lasts u (users-few u k) m;
            after = w.after;
            longer = w.longer;
            era-most = w.era-most;
          }
        where
          both : (u : ℕ) → u < 64 → has (intersection among (holders_at (policy_of (table_of s)) t)) u ≡ (has among u && holds_any (policy_of (table_of s)) t u)
          both u k = has-intersection among _ u k ∙ ap (λ (b : Bool). has among u && b) (holder t u k)

      pub held_all : roles_of s ≤ r → HeldAmong (policy_of (table_of s)) (cycle_of s) among t set until era
      held_all l =
          settled
          (λ u k m h.
          let g = by-holds t u h in
          w.all u g.0 k m (omega (arith, (fine.entries _ (fine.rows g.0 g.1.below).alone.derived).source)) g.1)

      pub held-everyone : set ≡ among → HeldAmong (policy_of (table_of s)) (cycle_of s) among t set until era
      held-everyone e = settled (λ u k m h. rw e m)

  -- ---- the row of role r at t, which is row k, or there is none
  module _ (r t u i : ℕ) (e : source_of s i ≡ r) (g : Gives s t u i) where
    found : Some i ≡ row_for s r t
    found = row-found s a r t i g.below (and_both (eqb (source_of s i) r) (covering s t i) (eq-eqb (source_of s i) r e) g.covering)

    pub its-row : (k : ℕ) → Some k ≡ row_for s r t → i ≡ k
    its-row k ek = let z : Some i ≡ Some k = found ∙ sym ek in cc

    pub no_row : None ≡ row_for s r t → ⊥
    no_row ek = let z : Some i ≡ None = found ∙ sym ek in cc

-- the same of the counts that were read
module _ (s : List ℕ) (n : Counts) (o : Opened s n) where
  pub rows_are : n.rows ≡ rows_of s
  rows_are = (counts-are s n o.counts).rows

  pub roles-are : n.roles ≡ roles_of s
  roles-are = (counts-are s n o.counts).roles

  pub roles-few : n.roles ≤ 32
  roles-few = omega (arith, roles-are, (table-fine s o.clear).header.roles-most)

  pub holders-few : (t : ℕ) → holders_at (policy_of (table_of s)) t < 2 ^ 64
  unfolding holders_at table_of
  holders-few t = fits-64 (users_of s) _ (table-fine s o.clear).header.users-most

  pub cycle-few : cycle_of s ≤ 40320
  cycle-few = (table-fine s o.clear).header.cycle-most

  -- row k is the one of role r at t, and its users are y; gain are those of `among` whom it has, without the set
  module _ (r among t k set : ℕ) (ek : Some k ≡ row_for s r t) (y b gain : ℕ) (ey : y ≡ (owned s k).users) (eb : b ≡ intersection among y)
      (eg : gain ≡ difference b set) where
    gain-is : (u : ℕ) → u < 64 → has gain u ≡ (has among u && has (owned s k).users u && not (has set u))
    gain-is u m =
        ap (λ (x : ℕ). has x u) eg
        ∙ has-difference b set u m
        ∙ ap (λ (c : Bool). c && not (has set u)) (ap (λ (x : ℕ). has x u) eb ∙ has-intersection among y u m ∙ ap (λ (x : ℕ). has among u && has x u) ey)

    pub gain-among : (u : ℕ) → u < 64 → has gain u ≡ true → (has among u ≡ true) × (has (owned s k).users u ≡ true)
    gain-among u m h =
        let z = and-three (has among u) (has (owned s k).users u) (not (has set u)) (sym (gain-is u m) ∙ h) in
        (z.0, z.1)

    -- whoever a row of the role gives a permission is in the set or gained
    pub gain-all : (u i : ℕ) → u < 64 → has among u ≡ true → source_of s i ≡ r → Gives s t u i → has (union set gain) u ≡ true
    gain-all u i m h e g = has-union set gain u m ∙ go (has set u) refl
      where
        member : has (owned s k).users u ≡ true
        member = ap (λ (j : ℕ). has (owned s j).users u) (sym (its-row s o.clear r t u i e g k ek)) ∙ g.member

        go : (c : Bool) → has set u ≡ c → (c || has gain u) ≡ true
        go true w = refl
        go false w = gain-is u m ∙ and-all (has among u) (has (owned s k).users u) (not (has set u)) h member (ap not w)

    pub gain-none : gain ≡ 0 → (u i : ℕ) → u < 64 → has among u ≡ true → source_of s i ≡ r → Gives s t u i → has set u ≡ true
    gain-none z u i m h e g =
        ⊎_elim (λ d. d) (λ d. clash (has 0 u) (ap (λ (x : ℕ). has x u) (sym z) ∙ d) (has-none u))
        (or_yes (has set u) (has gain u) (sym (has-union set gain u m) ∙ gain-all u i m h e g))

    -- how far it reaches by itself: w is its window
    module _ (x : ℕ) (ex : x ≡ t % cycle_of s) (w : declared.Window) (ew : window_given w ≡ (row_of s k).window) where
      covered : covers (cycle_of s) (row_of s k).window t ≡ true
      covered = (row-there s r t k (sym ek)).2

      pub row-reaches : (stop : ℕ) → stop ≡ w.offset + w.length → Reaching s t x stop w.end gain
      row-reaches stop es =
          rw (ap (λ (v : Window). v.end) ew)
          (reach-row s o.clear k (row-there s r t k (sym ek)).0 t x gain ex (λ u m h. (gain-among u m h).1) covered stop
          (es ∙ ap (λ (v : Window). v.offset + v.length) ew))

      pub row-dates : t < w.end
      row-dates = omega (arith, (covers-in covered).to, ap (λ (v : Window). v.end) ew)

  pub reach-read : (i : ℕ) → i < n.rows → (t x far stop era gain : ℕ) → x ≡ t % cycle_of s → Reaching s t x far era gain → GoesOn s i t far era gain
      → stop ≡ far + (row_of s i).window.length → Reaching s t x stop era gain
  reach-read i l t x far stop era gain ex w g es =
      reach-on s o.clear i (omega (arith, rows_are)) t x gain ex g.users far stop era w g.offset g.begun g.lasting es

  -- the row of a role is one of the rows
  pub row-below : (r t k : ℕ) → Some k ≡ row_for s r t → k < n.rows
  row-below r t k e = omega (arith, (row-there s r t k (sym e)).0, rows_are)
