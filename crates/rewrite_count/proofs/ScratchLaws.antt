-- The scratch of a pass over the roles keeps its room.
--     room-same, same-on                      over no step, and over two
--     room-stays                              for deriving roles, and for keeping them
--     found_in                                how many derived roles each role has, where the roles are kept
--     of-kept, if-kept                        what is asked of these
--     noted-keeps, noted-found, noted-same    one role more is noted
-- Assumes nothing.
use Rattle.std.proofs.Common.{◌≡◌, ℕ, List, [], length, set, arith, refl, sym, ◌∙◌, ap}
use Rattle.std.specs.Prelude.{Option, Some, None, is_some, IsSome, IfSome, unwrap_or, option_map}
use Rattle.rewrite_derive.proofs.ScratchLaws.{room-kept}
use Rattle.rewrite_count.specs.Parts.{RoomFor, SameRoom}
use Rattle.rewrite_count.specs.declared.fields.Fields.{Fields}
use Rattle.rewrite_count.specs.declared.scratch.Scratch.{Scratch}

pub room-same : (s : Scratch) → SameRoom s s
room-same s = record { same-pairs = refl; same-marks = refl; same-links = refl; pairs = refl; marks = refl; links = refl; trees = refl; kept = refl }

pub same-on : {s t u : Scratch} → SameRoom s t → SameRoom t u → SameRoom s u
same-on a b =
    record {
      same-pairs = b.same-pairs ∙ a.same-pairs;
      same-marks = b.same-marks ∙ a.same-marks;
      same-links = b.same-links ∙ a.same-links;
      pairs = b.pairs ∙ a.pairs;
      marks = b.marks ∙ a.marks;
      links = b.links ∙ a.links;
      trees = b.trees ∙ a.trees;
      kept = b.kept ∙ a.kept;
    }

pub room-stays : {f : Fields} {s t : Scratch} → SameRoom s t → RoomFor f s → RoomFor f t
room-stays {f} {s} {t} e q =
    record {
      room = rw (e.trees) (room-kept q.room e.pairs e.marks e.links);
      for-kept = λ k.
          let z = q.for-kept (sym e.kept ∙ k) in
          record { for-pairs = omega (arith, z.for-pairs, e.pairs); for-marks = omega (arith, z.for-marks, e.marks) };
    }

-- none where they are not
abbrev pub found_in : Scratch → List ℕ
found_in s = unwrap_or s.kept []

-- what is asked of the counts, where the roles are kept
pub of-kept : (s : Scratch) (P : List ℕ → Type 0) → IfSome s.kept P → IsSome s.kept → P (found_in s)
of-kept s P h e = go s.kept h e
  where
    go : (o : Option (List ℕ)) → IfSome o P → IsSome o → P (unwrap_or o [])
    go (Some found) h e = h
    go None h e = absurd (cc)

pub if-kept : (s : Scratch) (P : List ℕ → Type 0) → (IsSome s.kept → P (found_in s)) → IfSome s.kept P
if-kept s P h = go s.kept h
  where
    go : (o : Option (List ℕ)) → (IsSome o → P (unwrap_or o [])) → IfSome o P
    go (Some found) h = h refl
    go None h = tt

still-kept : (o : Option (List ℕ)) (i m : ℕ) → is_some (option_map (λ found. set found i m) o) ≡ is_some o
still-kept None i m = refl
still-kept (Some found) i m = refl

found-noted : (o : Option (List ℕ)) (i m : ℕ) → unwrap_or (option_map (λ found. set found i m) o) [] ≡ set (unwrap_or o []) i m
found-noted None i m = refl
found-noted (Some found) i m = refl

module _ (i m : ℕ) {s t u v : Scratch} (a : SameRoom s t) (b : SameRoom t u) (k : u.kept ≡ t.kept)
    (e : v ≡ record u { kept = option_map (λ found. set found i m) u.kept }) where
  pub noted-keeps : is_some v.kept ≡ is_some t.kept
  noted-keeps = ap (λ (x : Scratch). is_some x.kept) e ∙ still-kept u.kept i m ∙ ap is_some k

  pub noted-found : found_in v ≡ set (found_in t) i m
  noted-found = ap found_in e ∙ found-noted u.kept i m ∙ ap (λ (o : Option (List ℕ)). set (unwrap_or o []) i m) k

  pub noted-same : SameRoom s v
  noted-same =
      record {
        same-pairs = ap (λ (x : Scratch). x.pairs.ghost_name) e ∙ b.same-pairs ∙ a.same-pairs;
        same-marks = ap (λ (x : Scratch). x.marks.ghost_name) e ∙ b.same-marks ∙ a.same-marks;
        same-links = ap (λ (x : Scratch). x.links.ghost_name) e ∙ b.same-links ∙ a.same-links;
        pairs = ap (λ (x : Scratch). length x.pairs.now) e ∙ b.pairs ∙ a.pairs;
        marks = ap (λ (x : Scratch). length x.marks.now) e ∙ b.marks ∙ a.marks;
        links = ap (λ (x : Scratch). length x.links.now) e ∙ b.links ∙ a.links;
        trees = ap (λ (x : Scratch). x.trees) e ∙ b.trees ∙ a.trees;
        kept = noted-keeps ∙ a.kept;
      }
