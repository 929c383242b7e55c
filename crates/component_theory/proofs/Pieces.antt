-- What follows an entry of the walk, over any children: the list of c and its descendants stands in one piece, and what follows that piece is found from
-- the siblings of c and what follows the piece of its parent.
use mathlib.Core.Path.{◌≡◌, refl, ap, ap₂, sym, ◌∙◌}
use mathlib.Core.Bool.{Bool, true, false}
use mathlib.Core.List.{List, [], ◌∷◌, ◌++◌, append-nil, append_assoc}
use mathlib.Core.Option.{Option, none, some, map, get_or}
use Prim.Native.Nat.{ℕ, ◌<◌}
use Rattle.lists.specs.Select.{gather, first}
use Rattle.lists.proofs.Members.{in_tail, in_list, in_append_right, gather_append}
use Rattle.lists.proofs.Follow.{Within, otherwise, first-append, first-gather}
use Rattle.patterns.specs.Generation.{walk}
use Rattle.component_theory.proofs.Traversal.{Ranked, level-walk-true, level-walk-false}

-- b stands in l in one piece, and what follows it is r: an entry, or nothing
pub record Block {A : Type 0} (b l : List A) (r : Option A) : Type 0 where
  pub before : List A
  pub after : List A
  pub cut : l ≡ before ++ (b ++ after)
  pub follows : r ≡ first after

pub whole-block : {A : Type 0} (l : List A) → Block l l none
whole-block l = record { before = []; after = []; cut = sym (append-nil l); follows = refl }

module _ {A : Type 0} {kids : A → List A} {up : A → A} {level : A → ℕ} (w : Ranked kids up level) where
  -- c and its descendants
  abbrev under : Bool → A → List A
  under even c = walk kids (level c) even c

  -- the first of them at odd depth
  abbrev first_under : A → A
  first_under c = get_or (first (kids c)) c

  first-under-true : (c : A) → 0 < level c → first (under true c) ≡ some c
  first-under-true c h = ap first (level-walk-true w c h)

  first-under-false : (c : A) → 0 < level c → first (under false c) ≡ some (first_under c)
  first-under-false c h =
      ap first (level-walk-false w c h)
      ∙ first-append (gather (under true) (kids c)) (c ∷ [])
      ∙ ap (λ o. otherwise o (some c)) (first-gather (under true) (λ d. d) (kids c) (λ d i. first-under-true d (w.kid_positive c d i)))
      ∙ chosen (first (kids c))
    where
      chosen : (o : Option A) → otherwise (map (λ d. d) o) (some c) ≡ some (get_or o c)
      chosen none = refl
      chosen (some d) = refl

  -- where the piece of d stands within the pieces of all children of p, and what the next piece begins with
  cut-kids : (even : Bool) (p d : A) {q : Option A} (i : Within d (kids p) q)
      → gather (under even) (kids p) ≡ gather (under even) i.before ++ (under even d ++ gather (under even) i.after)
  cut-kids even p d i = ap (gather (under even)) i.cut ∙ gather_append (under even) i.before (d ∷ i.after)

  next-kid : (even : Bool) (start : A → A) (p d : A) {q : Option A} (i : Within d (kids p) q) → ((c : A) → 0 < level c → first (under even c) ≡ some (start c))
      → map start q ≡ first (gather (under even) i.after)
  next-kid even start p d i h =
      ap (map start) i.follows
      ∙ sym (first-gather (under even) start i.after
      (λ c m. h c (w.kid_positive p c (in_list (sym i.cut) (in_append_right i.before (in_tail m))))))

  -- the piece of a child, within the piece of a parent at even depth
  pub block-below-even : (p d : A) {l : List A} {q r : Option A} → 0 < level p → Block (under true p) l r → Within d (kids p) q
      → Block (under false d) l (otherwise (map first_under q) r)
  block-below-even p d {r = r} h b i =
      record {
        before = b.before ++ (p ∷ gather (under false) i.before);
        after = gather (under false) i.after ++ b.after;
        cut = b.cut ∙ ap (λ t. b.before ++ (t ++ b.after)) (level-walk-true w p h ∙ ap (λ t. p ∷ t) (cut-kids false p d i)) ∙ simp append_assoc;
        follows = ap₂ otherwise (next-kid false first_under p d i first-under-false) b.follows
            ∙ sym (first-append (gather (under false) i.after) b.after);
      }

  -- and within the piece of a parent at odd depth
  pub block-below-odd : (p d : A) {l : List A} {q r : Option A} → 0 < level p → Block (under false p) l r → Within d (kids p) q
      → Block (under true d) l (otherwise q (some p))
  block-below-odd p d {q = q} h b i =
      record {
        before = b.before ++ gather (under true) i.before;
        after = gather (under true) i.after ++ (p ∷ b.after);
        cut = b.cut ∙ ap (λ t. b.before ++ (t ++ b.after)) (level-walk-false w p h ∙ ap (λ t. t ++ (p ∷ [])) (cut-kids true p d i)) ∙ simp append_assoc;
        follows = ap (λ o. otherwise o (some p)) (sym (mapped q) ∙ next-kid true (λ c. c) p d i first-under-true)
            ∙ sym (first-append (gather (under true) i.after) (p ∷ b.after));
      }
    where
      mapped : (o : Option A) → map (λ c. c) o ≡ o
      mapped none = refl
      mapped (some c) = refl

  -- c itself, at even depth the first of its piece
  pub block-first : (c : A) {l : List A} {r : Option A} → 0 < level c → Block (under true c) l r → Within c l (otherwise (map first_under (first (kids c))) r)
  block-first c h b =
      record {
        before = b.before;
        after = gather (under false) (kids c) ++ b.after;
        cut = b.cut ∙ ap (λ t. b.before ++ (t ++ b.after)) (level-walk-true w c h);
        follows = ap₂ otherwise (sym (first-gather (under false) first_under (kids c) (λ d i. first-under-false d (w.kid_positive c d i)))) b.follows
            ∙ sym (first-append (gather (under false) (kids c)) b.after);
      }

  -- at odd depth the last of it
  pub block_last : (c : A) {l : List A} {r : Option A} → 0 < level c → Block (under false c) l r → Within c l r
  block_last c h b =
      record {
        before = b.before ++ gather (under true) (kids c);
        after = b.after;
        cut = b.cut ∙ ap (λ t. b.before ++ (t ++ b.after)) (level-walk-false w c h) ∙ simp append_assoc;
        follows = b.follows;
      }
