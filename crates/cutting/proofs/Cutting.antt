-- Cutting bytes into numbers in one pass: what a step tells, how great a number can be, what is known after each byte, and what that says at the end.
use Rattle.std.specs.Prelude.{Ok, Err}
use mathlib.Core.Path.{◌≡◌, refl, ap, sym, ◌∙◌, subst}
use mathlib.Core.Bool.{◌||◌}
use mathlib.Core.List.{List, [], ◌∷◌, ◌++◌, append-nil}
use Prim.Native.Nat.{ℕ, zero, suc, ◌+◌, ◌-◌, ◌≤◌, ◌<◌}
use native.Mathlib.Omega.{arith}
use lib.Dec.{ltb, leb, eqb}
use lib.ListN.{length, take, drop, get_or, set, length-append, length-set, length-take, drop_of_length-le}
use lib.Seq.{drop-cons, take_all, take-append-le, take-nil, set_at, set_out, append_snoc}
use borrow.Author.Tests.{ltb-true, ltb-false, leb-false}
use Rattle.lists.proofs.Tests.{by-test, clash}
use Rattle.patterns.specs.declared.Refusal.{Refusal}
use Rattle.patterns.specs.declared.Refusal.TheVariants.{Truncated}
use Rattle.patterns.specs.Reading.{Result, done, fault, cut}
use Rattle.patterns.specs.OnePass.{Known, whole, begun, broken, cut_step, going, scanned, scan_step, scan, scan_end}
use Rattle.form_theory.proofs.Results.{or-false}
use Rattle.form_theory.proofs.OnePass.{scan-next, prefix-fault, prefix-end}
use Rattle.cutting.specs.declared.Cut.{Cut}
use Rattle.cutting.specs.declared.Piece.TheVariants.{Whole, Begun}
use Rattle.cutting.specs.Cutting.{step_reply, cut_reply, stored, CutInto}

-- What the reply of a step tells.

whole-told : (k : Known) (v : ℕ) → Ok (Whole v) ≡ step_reply k → k ≡ whole v
whole-told (whole n) v e = cc
whole-told (begun n) v e = clash cc
whole-told (broken c) v e = clash cc

begun-told : (k : Known) (v : ℕ) → Ok (Begun v) ≡ step_reply k → (k ≡ begun (v - 128)) × (128 ≤ v)
begun-told (whole n) v e = clash cc
begun-told (begun n) v e =
    let f : v ≡ n + 128 = cc in
    let g : n ≡ v - 128 = omega arith in
    (ap begun g, omega arith)
begun-told (broken c) v e = clash cc

broken-told : (k : Known) (c : Refusal) → Err c ≡ step_reply k → k ≡ broken c
broken-told (whole n) c e = clash cc
broken-told (begun n) c e = clash cc
broken-told (broken d) c e = cc

-- How great a number can be, from a byte below 256: as a whole below 16,384, and its beginning below 128.
abbrev Small : ℕ → Known → Type 0
Small p (whole n) = n < 16384
Small p (begun v) = (v < 128) × (p ≡ 0)
Small p (broken c) = Unit {0}

small : (x p v : ℕ) → x < 256 → v < 128 → Small p (cut_step x p v)
small x zero v h k = by-test (ltb x 128) (λ t. rw t (omega (arith, ltb-true x 128 t))) (λ t. rw t (omega arith, refl))
small x (suc p) v h k =
    by-test (eqb x 0 || leb 128 x)
    (λ t. rw t tt)
    (λ t. rw t (omega (arith, leb-false 128 x (or-false (eqb x 0) (leb 128 x) t).1)))

-- The output: as many numbers as fit, and one more.
stored_more : (xs out : List ℕ) (n x : ℕ) → length xs ≡ n → set (stored xs out) n x ≡ stored (xs ++ (x ∷ [])) out
stored_more xs out n x e =
    let more : length (xs ++ (x ∷ [])) ≡ suc n = omega (arith, length-append xs (x ∷ [])) in
    by-test (ltb n (length out))
    (λ t.
    let h : n < length out = ltb-true n (length out) t in
    rw (
      take_all (length out) xs (omega arith),
      take_all (length out) (xs ++ (x ∷ [])) (omega arith),
      more,
      e,
      drop-cons out n 0 h,
    )
    (set_at xs (get_or out n 0) (drop (suc n) out) x n e ∙ sym (append_snoc xs x (drop (suc n) out))))
    (λ t.
    let h : length out ≤ n = ltb-false n (length out) t in
    rw (
      take-append-le (length out) xs (x ∷ []) (omega arith),
      drop_of_length-le out {i = length xs} (omega arith),
      drop_of_length-le out {i = length (xs ++ (x ∷ []))} (omega arith),
      append-nil,
    )
    (set_out (take (length out) xs) n x (omega (arith, length-take (length out) xs))))

-- The bytes before `at` have been read: n numbers have ended, and the next byte has this place in its number, which began with the byte `first`.
pub record Cutting (s before out : List ℕ) (at n place first : ℕ) : Type 0 where
  pub within : at ≤ length s
  pub fewer : n ≤ at
  pub same : length out ≡ length before
  pub low : (first < 256) × (0 < place → 128 ≤ first)
  pub had : List ℕ
  pub count : length had ≡ n
  pub known : scan (take at s) ≡ going had place (first - 128)
  pub kept : out ≡ stored had before

pub cutting-start : (s before : List ℕ) → Cutting s before before 0 0 0 0
cutting-start s before =
    record { within = omega arith; fewer = omega arith; same = refl; low = (omega arith, λ q. omega arith); had = []; count = refl; known = refl; kept = rw take-nil }

module _ {s before out : List ℕ} {at n place first : ℕ} (w : Cutting s before out at n place first) where
  module _ (h : at < length s) where
    -- what is known after one byte more
    further : (k : Known) → cut_step (get_or s at 0) place (first - 128) ≡ k → scan (take (at + 1) s) ≡ scanned w.had place k
    further k e = scan-next s at h ∙ ap (scan_step (get_or s at 0)) w.known ∙ ap (scanned w.had place) e

    -- a refusal decides over all
    pub cutting-refused : (c : Refusal) → Err c ≡ step_reply (cut_step (get_or s at 0) place (first - 128)) → CutInto s before (Err c) out
    cutting-refused c e =
        let f : cut s ≡ fault c = prefix-fault s (at + 1) c (further (broken c) (broken-told (cut_step (get_or s at 0) place (first - 128)) c e)) in
        record { same = w.same; reply = rw f; output = λ xs g. clash cc }

    module _ (value : ℕ) (byte : get_or s at 0 < 256) where
      bounded : Small place (cut_step (get_or s at 0) place (first - 128))
      bounded = small (get_or s at 0) place (first - 128) byte (omega (arith, w.low.0))

      -- a number has ended: it is below 16,384, and one more is kept and counted
      module _ (e : Ok (Whole value) ≡ step_reply (cut_step (get_or s at 0) place (first - 128))) where
        ended : cut_step (get_or s at 0) place (first - 128) ≡ whole value
        ended = whole-told (cut_step (get_or s at 0) place (first - 128)) value e

        pub ended-small : value < 16384
        ended-small = subst (Small place) ended bounded

        pub cutting-ended : Cutting s before (set out n value) (at + 1) (n + 1) 0 0
        cutting-ended =
            record {
              within = omega arith;
              fewer = omega (arith, w.fewer);
              same = simp length-set w.same;
              low = (omega arith, λ q. omega arith);
              had = w.had ++ (value ∷ []);
              count = omega (arith, length-append w.had (value ∷ []), w.count);
              known = further (whole value) ended;
              kept = ap (λ o. set o n value) w.kept ∙ stored_more w.had before n value w.count;
            }

      -- a number goes on
      pub cutting-open : Ok (Begun value) ≡ step_reply (cut_step (get_or s at 0) place (first - 128)) → Cutting s before out (at + 1) n 1 value
      cutting-open e =
          let told = begun-told (cut_step (get_or s at 0) place (first - 128)) value e in
          let b = subst (Small place) told.0 bounded in
          record {
            within = omega arith;
            fewer = omega (arith, w.fewer);
            same = w.same;
            low = (omega (arith, b.0, told.1), λ q. told.1);
            had = w.had;
            count = w.count;
            known = further (begun (value - 128)) told.0 ∙ ap (λ p. going w.had (suc p) (value - 128)) b.1;
            kept = w.kept;
          }

  -- No byte is left: a number is open ..
  pub cutting-truncated : length s ≤ at → 0 < place → CutInto s before (Err Truncated) out
  cutting-truncated h p =
      let f : cut s ≡ fault Truncated = prefix-end s at h ∙ ap scan_end w.known ∙ open-end place p in
      record { same = w.same; reply = rw f; output = λ xs g. clash cc }
    where
      open-end : (p : ℕ) → 0 < p → scan_end (going w.had p (first - 128)) ≡ fault Truncated
      open-end zero k = absurd (omega arith)
      open-end (suc p) k = refl

  -- .. or none is
  pub cutting-end : length s ≤ at → place ≡ 0 → CutInto s before (Ok record { numbers = n; bytes = length s }) out
  cutting-end h p =
      let f : cut s ≡ done w.had = prefix-end s at h ∙ ap scan_end (w.known ∙ ap (λ q. going w.had q (first - 128)) p) in
      record {
        same = w.same;
        reply = rw (f, w.count);
        output = λ xs g. let q : w.had ≡ xs = cc in w.kept ∙ ap (λ l. stored l before) q;
      }

-- A slice that was cut: these are its numbers.
pub numbers-cut : {s before after : List ℕ} {k : Cut} → CutInto s before (Ok k) after
    → (xs : List ℕ) × (cut s ≡ done xs) × (length xs ≡ k.numbers) × (after ≡ stored xs before)
numbers-cut {s} {before} {after} {k} r = found (cut s) refl r.reply
  where
    found : (o : Result (List ℕ)) → cut s ≡ o → Ok k ≡ cut_reply (length s) o
        → (xs : List ℕ) × (cut s ≡ done xs) × (length xs ≡ k.numbers) × (after ≡ stored xs before)
    found (done xs) p q = let e : k ≡ record { numbers = length xs; bytes = length s } = cc in (xs, p, sym (ap (λ c. c.numbers) e), r.output xs p)
    found (fault c) p q = clash cc

-- A slice that was refused: its cut has that cause.
pub refusal-cut : {s before after : List ℕ} {c : Refusal} → CutInto s before (Err c) after → cut s ≡ fault c
refusal-cut {s} {before} {after} {c} r = found (cut s) refl r.reply
  where
    found : (o : Result (List ℕ)) → cut s ≡ o → Err c ≡ cut_reply (length s) o → cut s ≡ fault c
    found (done xs) p q = clash cc
    found (fault d) p q = let k : c ≡ d = cc in p ∙ ap fault (sym k)
