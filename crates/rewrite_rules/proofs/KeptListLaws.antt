-- The kept fields of all roles.
--     kept_out      each is a field of the rota, kept for some role as its entry
--     kept-in       and every field that is kept for a role is among them
-- Assumes nothing.
use Prim.Native.Nat.{ℕ, zero, suc, ◌+◌, ◌≤◌, ◌<◌, zero-le}
use mathlib.Core.Path.{◌≡◌, refl, sym, ap, ◌∙◌}
use mathlib.Core.Logic.{◌⊎◌, inl, inr, ⊎_elim}
use Rattle.std.proofs.Common.{Option, None, Some}
use mathlib.Core.List.Memᴰ
use mathlib.Core.List.{List, [], ◌∷◌, ◌++◌, Memᴰ}
use native.Mathlib.Decide.{ℕ_discrete}
use native.Mathlib.Omega.{arith}
use lib.ListN.{length}
use Rattle.minutes.specs.Believed.Minutes.{Window}
use Rattle.rota.specs.Believed.Rota.{Rota}
use Rattle.table.specs.Believed.Table.{Entry}
use Rattle.rewrite_rules.specs.Believed.Rewriting.{fields, kept_as, Kept, keep, kept_of, kept_from, kept}

pub record KeptFor (ρ : Rota) (r : ℕ) (fs : List Window) (k : Kept) : Type 0 where
  pub field_in : Memᴰ k.field fs
  pub kept-as : kept_as ρ r k.field ≡ Some k.entry

module _ (ρ : Rota) where
  module _ (r : ℕ) where
    pub of-out : (fs : List Window) (k : Kept) → Memᴰ k (kept_of ρ r fs) → KeptFor ρ r fs k
    unfolding kept_of
    of-out [] k m = absurd (Memᴰ.not-nil m)
    of-out (f ∷ fs) k m = go (kept_as ρ r f) refl (of-out fs k) m
      where
        later : KeptFor ρ r fs k → KeptFor ρ r (f ∷ fs) k
        later b = record { field_in = Memᴰ.tail b.field_in; kept-as = b.kept-as }

        here : (e : Entry) → kept_as ρ r f ≡ Some e → k ≡ record { entry = e; field = f } → KeptFor ρ r (f ∷ fs) k
        here e q p =
            let pf : k.field ≡ f = ap (λ (z : Kept). z.field) p in
            let pe : k.entry ≡ e = ap (λ (z : Kept). z.entry) p in
            record { field_in = Memᴰ.head pf; kept-as = ap (kept_as ρ r) pf ∙ q ∙ ap {B = Option Entry} Some (sym pe) }

        go : (o : Option Entry) → kept_as ρ r f ≡ o → (Memᴰ k (kept_of ρ r fs) → KeptFor ρ r fs k) → Memᴰ k (keep o f (kept_of ρ r fs))
            → KeptFor ρ r (f ∷ fs) k
        go None q rest n = later (rest n)
        go (Some e) q rest n = ⊎_elim (here e q) (λ j. later (rest j)) (Memᴰ.cases_cons n)

    of-in : (fs : List Window) (k : Kept) → KeptFor ρ r fs k → Memᴰ k (kept_of ρ r fs)
    unfolding kept_of
    of-in [] k b = absurd (Memᴰ.not-nil b.field_in)
    of-in (f ∷ fs) k b = go (kept_as ρ r f) refl (λ m. of-in fs k (record { field_in = m; kept-as = b.kept-as })) (Memᴰ.cases_cons b.field_in)
      where
        past : (o : Option Entry) → Memᴰ k (kept_of ρ r fs) → Memᴰ k (keep o f (kept_of ρ r fs))
        past None n = n
        past (Some e) n = Memᴰ.tail n

        go : (o : Option Entry) → kept_as ρ r f ≡ o → (Memᴰ k.field fs → Memᴰ k (kept_of ρ r fs)) → (k.field ≡ f) ⊎ Memᴰ k.field fs
            → Memᴰ k (keep o f (kept_of ρ r fs))
        go o p rest (inr n) = past o (rest n)
        go None p rest (inl s) = let z : ◌≡◌ {A = ℕ} 0 1 = cc (ap (kept_as ρ r) s, b.kept-as) in absurd (omega arith)
        go (Some e) p rest (inl s) =
            let z : k.entry ≡ e = cc (ap (kept_as ρ r) s, b.kept-as) in
            Memᴰ.head (λ i. record { entry = z i; field = s i })

  from_out : (n r : ℕ) (k : Kept) → Memᴰ k (kept_from ρ n r) → (q : ℕ) × (q < n + r) × KeptFor ρ q (fields ρ) k
  unfolding kept_from
  from_out zero r k m = absurd (Memᴰ.not-nil m)
  from_out (suc n) r k m =
      ⊎_elim
      (λ h. (r, omega arith, of-out r (fields ρ) k h))
      (λ h. let z = from_out n (suc r) k h in (z.0, omega (arith, z.1), z.2))
      (Memᴰ.append_cases (kept_of ρ r (fields ρ)) m)

  from_in : (n r q : ℕ) (k : Kept) → r ≤ q → q < n + r → KeptFor ρ q (fields ρ) k → Memᴰ k (kept_from ρ n r)
  unfolding kept_from
  from_in zero r q k a b m = absurd (omega arith)
  from_in (suc n) r q k a b m = go (λ l h. from_in n (suc r) q k l h m) (ℕ_discrete r q)
    where
      go : (suc r ≤ q → q < n + suc r → Memᴰ k (kept_from ρ n (suc r))) → Dec (r ≡ q) → Memᴰ k (kept_of ρ r (fields ρ) ++ kept_from ρ n (suc r))
      go rest (yes e) = Memᴰ.append_left {s = kept_of ρ r (fields ρ)} (kept_from ρ n (suc r)) (rw e (of-in q (fields ρ) k m))
      go rest (no e) = Memᴰ.append_right (kept_of ρ r (fields ρ)) (rest (omega arith) (omega arith))

  pub kept_out : (k : Kept) → Memᴰ k (kept ρ) → (q : ℕ) × (q < length ρ.roles) × KeptFor ρ q (fields ρ) k
  unfolding kept
  kept_out k m = let z = from_out (length ρ.roles) 0 k m in (z.0, omega (arith, z.1), z.2)

  pub kept-in : (r : ℕ) (k : Kept) → r < length ρ.roles → KeptFor ρ r (fields ρ) k → Memᴰ k (kept ρ)
  unfolding kept
  kept-in r k h b = from_in (length ρ.roles) 0 r k zero-le (omega arith) b
