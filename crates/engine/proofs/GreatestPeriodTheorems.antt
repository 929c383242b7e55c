-- What follows from the promise of the entry that writes a code with the greatest period, as document 02, paper 9, asks for it: the code is one of n points, its period is
-- the number that is told, no map of n points has a greater one, and the refusals come in their order.
use mathlib.Core.Path.{◌≡◌, refl, ap, sym, ◌∙◌}
use mathlib.Core.List.{List, map}
use Prim.Native.Nat.{ℕ, ◌≤◌, ◌<◌}
use native.Mathlib.Omega.{arith}
use lib.ListN.{length, take, drop, get_or}
use lib.Seq.{take-append_seam, drop-append_seam}
use Rattle.lists.specs.Select.{total}
use Rattle.lists.proofs.Tests.{clash}
use Rattle.patterns.specs.declared.Refusal.{Refusal}
use Rattle.patterns.specs.declared.Refusal.TheVariants.{Count, Room, TooManyPoints}
use Rattle.patterns.specs.System.{System, weight}
use Rattle.patterns.specs.Written.{written}
use Rattle.patterns.specs.Table.{image, system_of, system_of_table}
use Rattle.patterns.specs.MapOf.{map_of}
use Rattle.patterns.specs.Reading.{done, fault, accepted}
use Rattle.patterns.specs.Replies.{number_of, length_is, GreatestAnswer, greatest_is, greatest_refused}
use Rattle.patterns.specs.Entry.{gives, accept_of, code_of_map, map_of_code}
use Rattle.patterns.specs.Period.{period}
use Rattle.patterns.specs.GreatestPeriod.{GreatestPeriod, checked_request, GreatestReplied, request_refused, found}
use Rattle.form_theory.proofs.WrittenBack.{written_back, written-fits}
use Rattle.map_theory.proofs.Isomorphisms.{table_below}
use Rattle.map_theory.proofs.MapOf.{length-map_of, map_of-table}
use Rattle.map_theory.proofs.Theorems.{table-weight}
use Rattle.period_theory.specs.Multiples.{lcm_from}
use Rattle.period_theory.specs.Landau.{landau}
use Rattle.period_theory.specs.LeastPeriod.{LeastPeriod}
use Rattle.period_theory.proofs.CommonMultiples.{Positive}
use Rattle.period_theory.proofs.CyclePeriods.{period-unique}
use Rattle.period_theory.proofs.TriedPeriods.{period-least}
use Rattle.period_theory.proofs.LandauBound.{lcm-at-most, period-below, landau-values}
use Rattle.period_theory.proofs.CodePeriods.{code-period}
use Rattle.period_theory.proofs.GreatestPeriod.{map-period, greatest-unique}
use Rattle.greatest_period_entry.proofs.Requests.{request-count, request-many, request-room, request-passes, request-cases}
use Rattle.greatest_period_entry.proofs.GreatestPeriod.{greatest-period}
use Rattle.engine.proofs.PeriodTheorems.{PeriodAnswer, period-reply, period_told}
use Rattle.engine.proofs.WrittenCodes.{Wrote, wrote-gives, map-given, given-system}

-- A code was written: it has the greatest period, it fills the first k places, and what stands behind it is kept.
pub record GreatestWritten (n : ℕ) (before : List ℕ) (k p : ℕ) (after : List ℕ) : Type 0 where
  pub few : n ≤ 120
  pub room : 1000 ≤ length before
  pub system : System
  pub is : GreatestPeriod n system p
  pub bytes : k ≡ length (written system)
  pub code_is : take k after ≡ written system
  pub kept : drop k after ≡ drop k before

-- A refusal has its reason, and no other that comes before.
pub data GreatestRefusal (n : ℕ) (before : List ℕ) : ℕ → Type 0 where
  count : 200 < n → GreatestRefusal n before 1
  too_many : 120 < n → n ≤ 200 → GreatestRefusal n before 13
  no_room : n ≤ 120 → length before < 1000 → GreatestRefusal n before 8

module _ (n : ℕ) (before : List ℕ) where
  reason : {c : Refusal} → checked_request n before ≡ fault c → GreatestRefusal n before (number_of c)
  reason {c} e =
      request-cases n before
      (λ h q. let z : fault Count ≡ fault c = sym q ∙ e in let y : c ≡ Count = cc in rw y (count h))
      (λ h k q. let z : fault TooManyPoints ≡ fault c = sym q ∙ e in let y : c ≡ TooManyPoints = cc in rw y (too_many h k))
      (λ h k q. let z : fault Room ≡ fault c = sym q ∙ e in let y : c ≡ Room = cc in rw y (no_room h k))
      (λ h k q. let z : done n ≡ fault c = sym q ∙ e in clash cc)

  passed : checked_request n before ≡ done n → (n ≤ 120) × (1000 ≤ length before)
  passed e =
      request-cases n before
      (λ h q. let z : fault Count ≡ done n = sym q ∙ e in clash cc)
      (λ h k q. let z : fault TooManyPoints ≡ done n = sym q ∙ e in clash cc)
      (λ h k q. let z : fault Room ≡ done n = sym q ∙ e in clash cc)
      (λ h k q. (h, k))

pub greatest-written : {n : ℕ} {before after : List ℕ} {k p : ℕ} → GreatestReplied n before (greatest_is k p) after → GreatestWritten n before k p after
greatest-written {n} {before} (found {S} e g) =
    let rest = drop (length (written S)) before in
    let h = passed n before e in
    record {
      few = h.0;
      room = h.1;
      system = S;
      is = g;
      bytes = refl;
      code_is = take-append_seam (written S) rest;
      kept = drop-append_seam (written S) rest;
    }

-- and a refusal leaves the output as it was
pub greatest-refusal : {n : ℕ} {before after : List ℕ} {c : ℕ} → GreatestReplied n before (greatest_refused c) after → GreatestRefusal n before c × (after ≡ before)
greatest-refusal {n} {before} (request_refused e) = (reason n before e, refl)

-- What the number is, and the code.
module _ {n : ℕ} {before after : List ℕ} {k p : ℕ} (r : GreatestReplied n before (greatest_is k p) after) where
  abbrev told : GreatestWritten n before k p after
  told = greatest-written r

  abbrev chosen : System
  chosen = told.system

  small : weight chosen ≤ 200
  small = omega (arith, told.is.points_are, told.few)

  code_read : accepted (take k after) ≡ done chosen
  code_read = ap accepted told.code_is ∙ written_back chosen told.is.valid small

  -- "a code of n points"
  pub greatest-accepted : accept_of (take k after) ≡ length_is n
  unfolding accept_of
  greatest-accepted = rw code_read (ap length_is told.is.points_are)

  -- 1,000 bytes are always enough
  pub greatest-short : k ≤ 804
  greatest-short = omega (arith, told.bytes, written-fits chosen told.is.valid small)

  map-points : length (map_of chosen) ≡ n
  map-points = length-map_of chosen ∙ told.is.points_are

  map-told : PeriodAnswer (map_of chosen) ≡ length_is p
  map-told =
      period-reply (map_of chosen) (omega (arith, map-points, told.few)) (map_of-table chosen)
      ∙ ap length_is (ap (λ m. period m (image (map_of chosen))) map-points ∙ told.is.reached)

  -- the period entry tells the same number of the map of this code,
  pub greatest-of-map : {t : List ℕ} → Wrote (map_of_code (take k after)) t → PeriodAnswer t ≡ length_is p
  unfolding map_of_code
  greatest-of-map {t} w =
      let z : gives (map_of chosen) ≡ gives t = sym (rw code_read) ∙ wrote-gives (map_of_code (take k after)) w in
      let y : t ≡ map_of chosen = cc in
      ap PeriodAnswer y ∙ map-told

  -- and of every map that has it
  pub greatest-of-maps : (f : List ℕ) → Wrote (code_of_map f) (take k after) → PeriodAnswer f ≡ length_is p
  unfolding system_of_table
  greatest-of-maps f w =
      let given = wrote-gives (code_of_map f) w in
      let t = (map-given f (take k after) given).0 in
      let same : chosen ≡ system_of (length f) (image f) = given-system f (take k after) chosen given code_read in
      let points : length f ≡ n = sym (table-weight (length f) f refl t.table) ∙ ap weight (sym same) ∙ told.is.points_are in
      period-reply f (omega (arith, points, told.few)) t.table
      ∙ ap length_is
      (code-period (length f) (image f) (table_below (length f) f refl t.table)
      ∙ ap (λ S. lcm_from 1 (map length S)) (sym same)
      ∙ sym (map-period chosen told.is.valid)
      ∙ ap (λ m. period m (image (map_of chosen))) told.is.points_are
      ∙ told.is.reached)

  -- "No map of n points has a greater one": not by what the period entry tells of it,
  pub none_greater : (f : List ℕ) {q : ℕ} → length f ≡ n → PeriodAnswer f ≡ length_is q → q ≤ p
  none_greater f e h =
      let q = period_told f h in
      rw (q.is, e) (told.is.greatest (image f) (table_below n f e q.table))

  -- nor by what the number means, for any function of the points to themselves,
  pub none-waits-longer : (f : ℕ → ℕ) → ((x : ℕ) → x < n → f x < n) → {q : ℕ} → LeastPeriod n f q → q ≤ p
  none-waits-longer f inside l = rw (period-unique l (period-least n f inside)) (told.is.greatest f inside)

  -- the number is that of Landau's function
  pub greatest-landau : p ≡ get_or landau n 0
  greatest-landau = greatest-unique told.is (greatest-period n told.few)

  -- and no positive numbers that add up to at most n have a greater least common multiple
  pub no-greater-lcm : (l : List ℕ) → Positive l → total (λ x. x) l ≤ n → lcm_from 1 l ≤ p
  no-greater-lcm l h t = rw greatest-landau (lcm-at-most n told.few l h t)

  -- 64 bits hold it
  pub greatest-below : p ≤ 5354228880
  greatest-below = rw (sym told.is.reached) (period-below n (image (map_of chosen)) (table_below n (map_of chosen) map-points (map_of-table chosen)) told.few)

-- The number is fixed, whichever codes two calls write and whatever buffers they are lent.
pub greatest-fixed : {n : ℕ} {before after lent left : List ℕ} {j k p q : ℕ} → GreatestReplied n before (greatest_is j p) after → GreatestReplied n lent (greatest_is k q) left → p ≡ q
greatest-fixed r s = greatest-unique (greatest-written r).is (greatest-written s).is

-- document 02, paper 9: "For n = 5 the length is 6, for n = 7 it is 12, for n = 0 it is 1"
module _ {before after : List ℕ} {k p : ℕ} where
  pub greatest-of-none : GreatestReplied 0 before (greatest_is k p) after → p ≡ 1
  greatest-of-none r = greatest-landau r ∙ ap (λ l. get_or l 0 0) landau-values

  pub greatest-of-five : GreatestReplied 5 before (greatest_is k p) after → p ≡ 6
  greatest-of-five r = greatest-landau r ∙ ap (λ l. get_or l 1 0) landau-values

  pub greatest-of-seven : GreatestReplied 7 before (greatest_is k p) after → p ≡ 12
  greatest-of-seven r = greatest-landau r ∙ ap (λ l. get_or l 2 0) landau-values

-- Every request by its checks: 1, then 13, then 8 for fewer than 1,000 bytes, and each keeps the output; with as many a code is always written.
module _ {n : ℕ} {before after : List ℕ} {a : GreatestAnswer} (r : GreatestReplied n before a after) where
  refused-so : {c : Refusal} → checked_request n before ≡ fault c → (a ≡ greatest_refused (number_of c)) × (after ≡ before)
  refused-so {c} e = of r
    where
      of : {a : GreatestAnswer} {after : List ℕ} → GreatestReplied n before a after → (a ≡ greatest_refused (number_of c)) × (after ≡ before)
      of (request_refused {c = d} q) = let z : fault d ≡ fault c = sym q ∙ e in let y : d ≡ c = cc in (ap (λ c. greatest_refused (number_of c)) y, refl)
      of (found q g) = let z : fault c ≡ done n = sym e ∙ q in clash cc

  pub greatest-count : 200 < n → (a ≡ greatest_refused 1) × (after ≡ before)
  greatest-count h = refused-so (request-count n before h)

  pub greatest-many : 120 < n → n ≤ 200 → (a ≡ greatest_refused 13) × (after ≡ before)
  greatest-many h k = refused-so (request-many n before h k)

  pub greatest-room : n ≤ 120 → length before < 1000 → (a ≡ greatest_refused 8) × (after ≡ before)
  greatest-room h k = refused-so (request-room n before h k)

  pub greatest-reply : n ≤ 120 → 1000 ≤ length before → (k : ℕ) × (a ≡ greatest_is k (get_or landau n 0))
  greatest-reply h k = of r
    where
      of : {a : GreatestAnswer} {after : List ℕ} → GreatestReplied n before a after → (k : ℕ) × (a ≡ greatest_is k (get_or landau n 0))
      of (request_refused {c} q) = let z : done n ≡ fault c = sym (request-passes n before h k) ∙ q in clash cc
      of (found {S} {p} q g) = (length (written S), ap (greatest_is (length (written S))) (greatest-unique g (greatest-period n h)))
