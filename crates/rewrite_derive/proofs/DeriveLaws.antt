-- The loop over the masks of a role: what is left, done from where the loop stands, is the whole.
--     settled-none, settled-step    what is settled: no minute, and a mask after its own step
--     marked-again                  the mask before again
--     Deriving, deriving-..         the loop; Going, going-.. with its index and the mask before
-- Assumes nothing.
use Prim.Native.Nat.{ℕ, zero, suc, ◌+◌, ◌*◌, ◌<◌, ◌≤◌}
use mathlib.Core.Path.{◌≡◌, refl, sym, ◌∙◌, ap, ap₂, subst}
use mathlib.Core.Bool.{Bool}
use Rattle.std.proofs.Common.{max, Option, None, Some}
use mathlib.Core.List.{List, [], ◌∷◌, ◌++◌, append-nil}
use native.Mathlib.Omega.{arith}
use native.Mathlib.Numerals.{add-one}
use lib.ListN.{length, get_or, take, drop, set, length-map, length-set}
use lib.Seq.{take-suc-set, append_snoc, drop-cons, drop-length, get_or-take, length-take-le}
use Rattle.ground.specs.Believed.Choice.{pick}
use Rattle.bitset.specs.Believed.Sets.{insert}
use Rattle.bitset.proofs.SetLaws.{has-none}
use Rattle.table.specs.Believed.Table.{Entry}
use Rattle.rewrite_rules.specs.Roles.{next_entries, mark_of, derived_from, marks_from}
use Rattle.rewrite_rules.specs.Kinds.{masks_in}
use Rattle.rewrite_rules.proofs.RoleMarks.{derived-length}
use Rattle.rewrite_rules.proofs.KindLaws.{map_at, known_next, known_same, mark-next}
use Rattle.rewrite_index.specs.Entries.{entries_to}
use Rattle.rewrite_index.proofs.EntryLaws.{entries-length, entries_none}
use Rattle.rewrite_sets.specs.declared.Role.{Role}
use Rattle.rewrite_trees.specs.Tree.{Indexed}
use Rattle.rewrite_unions.specs.Union.{union_of, all_of}
use Rattle.rewrite_sets.specs.Role.{sets_made, sets_in, kept_with, kept_by}
use Rattle.rewrite_derive.specs.Mark.{mark_at, grown, Marked}
use Rattle.rewrite_derive.specs.Derive.{Room, Derived, DerivedTo}
use Rattle.rewrite_derive.proofs.ScratchLaws.{room-kept}

-- ---- what is settled

-- what o gives is among the entries es, and m is its mark
pub record Settled (es : List Entry) (o : Option Entry) (m : ℕ) : Type 0 where
  pub mark-is : m ≡ mark_of es o
  pub none-new : next_entries es o ≡ es

pub settled-none : (es : List Entry) (o : Option Entry) → o ≡ None → Settled es o 0
unfolding mark_of next_entries
settled-none es o e = rw e (record { mark-is = refl; none-new = refl })

module _ {source : ℕ} {o : Option Entry} {d : ℕ} {pairs : List ℕ} {place : Option ℕ} where
  -- a mask after its own step
  pub settled-step : {pairs' : List ℕ} → Marked source o d pairs pairs' place → Settled (entries_to source (grown d place) pairs') o (mark_at place)
  settled-step s =
      let es = entries_to source d pairs in
      rw s.entries-then
      (record { mark-is = s.marked ∙ sym (mark-next es o); none-new = known_same (next_entries es o) o (known_next es o) })

  -- the mask before again
  pub marked-again : Settled (entries_to source d pairs) o (mark_at place) → mark_at place ≤ d → Marked source o d pairs pairs place
  marked-again s h =
      let e : max d (mark_at place) ≡ d = omega arith in
      record { marked = s.mark-is; small = omega arith; entries-then = ap (λ (n : ℕ). entries_to source n pairs) e ∙ sym s.none-new }

-- ---- one mask more of a list

module _ (g : ℕ → Option Entry) (ms : List ℕ) (i : ℕ) (hi : i < length ms) (es es' : List Entry) (m : ℕ)
    (em : m ≡ mark_of es (g (get_or ms i 0))) (ee : es' ≡ next_entries es (g (get_or ms i 0))) where
  entries-turn : derived_from g es' (drop (i + 1) ms) ≡ derived_from g es (drop i ms)
  unfolding derived_from
  entries-turn =
      ap₂ (λ (e : List Entry) (k : ℕ). derived_from g e (drop k ms)) ee (add-one i)
      ∙ ap (derived_from g es) (sym (drop-cons ms i 0 hi))

  rest-marks : m ∷ marks_from g es' (drop (i + 1) ms) ≡ marks_from g es (drop i ms)
  unfolding marks_from
  rest-marks =
      ap₂ (λ (e : List Entry) (k : ℕ). m ∷ marks_from g e (drop k ms)) ee (add-one i)
      ∙ ap (λ (z : ℕ). z ∷ marks_from g (next_entries es (g (get_or ms i 0))) (drop (suc i) ms)) em
      ∙ ap (marks_from g es) (sym (drop-cons ms i 0 hi))

  marks-turn : (marks : List ℕ) → i + 1 < length marks
      → take ((i + 1) + 1) (set marks (i + 1) m) ++ marks_from g es' (drop (i + 1) ms) ≡ take (i + 1) marks ++ marks_from g es (drop i ms)
  marks-turn marks h =
      ap (λ (l : List ℕ). l ++ marks_from g es' (drop (i + 1) ms)) (ap (λ (k : ℕ). take k (set marks (i + 1) m)) (add-one (i + 1)) ∙ take-suc-set marks (i + 1) m h)
      ∙ append_snoc (take (i + 1) marks) m (marks_from g es' (drop (i + 1) ms))
      ∙ ap (λ (l : List ℕ). take (i + 1) marks ++ l) rest-marks

-- ---- the masks of sets of hours

module _ (sets : List ℕ) (n : ℕ) (h : n ≤ length sets) where
  taken : length (take n sets) ≡ n
  taken = length-take-le n sets h

  pub masks-length : length (masks_in sets n) ≡ n
  unfolding masks_in
  masks-length = length-map (take n sets) (λ (x : ℕ). insert x 32) ∙ taken

  masks-at : (i : ℕ) → i < n → get_or (masks_in sets n) i 0 ≡ insert (get_or sets i 0) 32
  unfolding masks_in
  masks-at i l = map_at (λ (x : ℕ). insert x 32) (take n sets) i (omega (arith, taken)) ∙ ap (λ (x : ℕ). insert x 32) (get_or-take n sets i 0 l)

-- ---- the loop

pub record Deriving (role : Role) (sets : List ℕ) (n : ℕ) (pairs marks : List ℕ) (d i : ℕ) : Type 0 where
  pub within : i ≤ n
  pub few : d ≤ i
  pub entries : derived_from (kept_by role) (entries_to role.source d pairs) (drop i (masks_in sets n)) ≡ derived_from (kept_by role) [] (masks_in sets n)
  pub marks-so : take (i + 1) marks ++ marks_from (kept_by role) (entries_to role.source d pairs) (drop i (masks_in sets n))
      ≡ 0 ∷ marks_from (kept_by role) [] (masks_in sets n)

pub deriving-start : (role : Role) (sets : List ℕ) (n : ℕ) (pairs marks : List ℕ) → 0 < length marks → Deriving role sets n pairs (set marks 0 0) 0 0
deriving-start role sets n pairs marks h =
    let e : entries_to role.source 0 pairs ≡ [] = entries_none role.source pairs in
    record {
      within = omega arith;
      few = omega arith;
      entries = rw e;
      marks-so = rw e (ap (λ (l : List ℕ). l ++ marks_from (kept_by role) [] (masks_in sets n)) (take-suc-set marks 0 0 h));
    }

module _ {role : Role} {sets : List ℕ} {n : ℕ} {pairs marks : List ℕ} {d i : ℕ} (s : Deriving role sets n pairs marks d i) (room : n ≤ length sets) where
  -- one mask more
  pub deriving-turn : (pairs' : List ℕ) (o : Option Entry) (place : Option ℕ) → i < n → i + 1 < length marks → o ≡ kept_by role (insert (get_or sets i 0) 32)
      → Marked role.source o d pairs pairs' place
      → Deriving role sets n pairs' (set marks (i + 1) (mark_at place)) (grown d place) (i + 1)
  deriving-turn pairs' o place hi hm eo t =
      let ms = masks_in sets n in
      let es = entries_to role.source d pairs in
      let hi' : i < length ms = omega (arith, masks-length sets n room) in
      let eg : o ≡ kept_by role (get_or ms i 0) = eo ∙ ap (kept_by role) (sym (masks-at sets n room i hi)) in
      let em : mark_at place ≡ mark_of es (kept_by role (get_or ms i 0)) = t.marked ∙ ap (mark_of es) eg in
      let ee : entries_to role.source (grown d place) pairs' ≡ next_entries es (kept_by role (get_or ms i 0)) = t.entries-then ∙ ap (next_entries es) eg in
      record {
        within = omega arith;
        few = omega (arith, s.few, t.small);
        entries = entries-turn (kept_by role) ms i hi' es (entries_to role.source (grown d place) pairs') (mark_at place) em ee ∙ s.entries;
        marks-so = marks-turn (kept_by role) ms i hi' es (entries_to role.source (grown d place) pairs') (mark_at place) em ee marks hm ∙ s.marks-so;
      }

  deriving-end : n ≤ i → Derived role sets n pairs marks d
  deriving-end h =
      let e : i ≡ n = omega (arith, s.within) in
      let es = entries_to role.source d pairs in
      let none_left : drop i (masks_in sets n) ≡ [] = ap (λ (k : ℕ). drop k (masks_in sets n)) (e ∙ sym (masks-length sets n room)) ∙ drop-length (masks_in sets n) in
      let all : es ≡ derived_from (kept_by role) [] (masks_in sets n) = sym (no_more es none_left) ∙ s.entries in
      record {
        few = omega (arith, s.few);
        count-is = sym (entries-length role.source d pairs) ∙ ap length all;
        entries-are = all;
        marks-are =
            ap (λ (k : ℕ). take (k + 1) marks) (sym e) ∙ sym (append-nil (take (i + 1) marks))
            ∙ ap (λ (l : List ℕ). take (i + 1) marks ++ l) (sym (no-marks es none_left)) ∙ s.marks-so;
      }
    where
      no_more : (es : List Entry) → drop i (masks_in sets n) ≡ [] → derived_from (kept_by role) es (drop i (masks_in sets n)) ≡ es
      no_more es z = ap (derived_from (kept_by role) es) z ∙ (unfold derived_from in refl)

      no-marks : (es : List Entry) → drop i (masks_in sets n) ≡ [] → marks_from (kept_by role) es (drop i (masks_in sets n)) ≡ []
      no-marks es z = ap (marks_from (kept_by role) es) z ∙ (unfold marks_from in refl)

  -- what is left adds to it
  pub deriving-to : (limit : ℕ) → (d ≤ limit → n ≤ i) → DerivedTo limit role sets n pairs marks d
  deriving-to limit ends =
      record {
        few = omega (arith, s.few, s.within);
        least =
            omega (
              arith,
              entries-length role.source d pairs,
              (derived-length (kept_by role) (entries_to role.source d pairs) (drop i (masks_in sets n))).0,
              ap length s.entries,
            );
        whole = λ h. deriving-end (ends h);
      }

-- with no hours the role has nothing
pub kept-nothing : (role : Role) → kept_by role 0 ≡ None
unfolding kept_by sets_in
kept-nothing role = ap (λ (b : Bool). kept_with role.source (pick b (sets_made (union_of role.users 0 33) (union_of role.permissions 0 33)) (sets_made 0 0))) (has-none role.on)

-- the loop with its index, and the mask before and its mark
pub record Going (role : Role) (sets : List ℕ) (n w : ℕ) (pairs marks links : List ℕ) (d last mark i : ℕ) : Type 0 where
  pub so_far : Deriving role sets n pairs marks d i
  pub indexed : Indexed w d pairs links (all_of role.users) (all_of role.permissions)
  pub settled : Settled (entries_to role.source d pairs) (kept_by role last) mark
  pub small : mark ≤ d
  pub room : Room n w sets pairs marks links

pub going_start : (role : Role) {sets : List ℕ} {n w : ℕ} {pairs marks links₀ links : List ℕ} → Room n w sets pairs marks links₀
    → Indexed w 0 pairs links (all_of role.users) (all_of role.permissions)
    → length links ≡ length links₀ → Going role sets n w pairs (set marks 0 0) links 0 0 0 0
going_start role {sets} {n} {pairs = pairs} {marks} r x l =
    record {
      so_far = deriving-start role sets n pairs marks (omega (arith, r.for-marks));
      indexed = x;
      settled = settled-none (entries_to role.source 0 pairs) (kept_by role 0) (kept-nothing role);
      small = omega arith;
      room = room-kept r refl (length-set marks 0 0) l;
    }

module _ {role : Role} {sets : List ℕ} {n w : ℕ} {pairs marks links : List ℕ} {d last mark i : ℕ}
    (g : Going role sets n w pairs marks links d last mark i) where
  pub going-room : i < n → (2 * d + 1 < length pairs) × (w + 2 * d + 1 < length links) × (d < 33345) × (0 < w) × (w ≤ 65536)
  going-room h =
      let r = g.room in (
        omega (arith, g.so_far.few, r.for-pairs),
        omega (arith, g.so_far.few, r.for-links),
        omega (arith, g.so_far.few, r.few),
        r.some,
        r.trees,
      )

  -- one mask more, cut to the hours that the role names
  pub going-turn : (pairs' links' : List ℕ) (m : ℕ) (place : Option ℕ) → i < n → kept_by role m ≡ kept_by role (insert (get_or sets i 0) 32)
      → Marked role.source (kept_by role m) d pairs pairs' place → Indexed w (grown d place) pairs' links' (all_of role.users) (all_of role.permissions)
      → length pairs' ≡ length pairs → length links' ≡ length links
      → Going role sets n w pairs' (set marks (i + 1) (mark_at place)) links' (grown d place) m (mark_at place) (i + 1)
  going-turn pairs' links' m place h e t x lp ll =
      record {
        so_far = deriving-turn g.so_far g.room.for-sets pairs' (kept_by role m) place h (omega (arith, g.room.for-marks)) e t;
        indexed = x;
        settled = settled-step t;
        small = omega arith;
        room = room-kept g.room lp (length-set marks (i + 1) (mark_at place)) ll;
      }

-- one mask: where its derived role stands, and what is so afterwards
pub record Turned (role : Role) (w m d : ℕ) (pairs pairs' links' : List ℕ) (d' mark' : ℕ) : Type 0 where
  pub place : Option ℕ
  pub mark-is : mark' ≡ mark_at place
  pub grown-is : d' ≡ grown d place
  pub marked : Marked role.source (kept_by role m) d pairs pairs' place
  pub indexed : Indexed w (grown d place) pairs' links' (all_of role.users) (all_of role.permissions)

-- every mark is one of a place
abbrev placed : ℕ → Option ℕ
placed zero = None
placed (suc k) = Some k

mark-placed : (k : ℕ) → mark_at (placed k) ≡ k
mark-placed zero = refl
mark-placed (suc k) = add-one k

-- the mask before again
pub going-again : {role : Role} {sets : List ℕ} {n w : ℕ} {pairs marks links : List ℕ} {d last mark i m : ℕ} → Going role sets n w pairs marks links d last mark i
    → m ≡ last → Turned role w m d pairs pairs links d mark
going-again {role} {pairs = pairs} {d = d} {last = last} {mark = mark} g e =
    let em : mark_at (placed mark) ≡ mark = mark-placed mark in
    let q : max d (mark_at (placed mark)) ≡ d = omega (arith, g.small, em) in
    record {
      place = placed mark;
      mark-is = sym em;
      grown-is = sym q;
      marked = rw e (marked-again (subst (Settled (entries_to role.source d pairs) (kept_by role last)) (sym em) g.settled) (omega (arith, g.small, em)));
      indexed = rw q g.indexed;
    }
