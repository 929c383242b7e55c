-- Cycle lengths that reach Landau's function [document 02, paper 9: the system that runs longest], for each number of points up to 120.
use Rattle.std.specs.Prelude.{cond, List, [], ◌∷◌, ◌++◌, ℕ, zero, suc, ◌-◌, ◌/◌, ◌%◌, eqb, get_or, replicate}
use Rattle.lists.specs.Select.{total}

-- the table of the code: a number for each number of points, whose bit k stands for a cycle of 29 − k points
unfoldable pub masks : List ℕ
masks =
    0 ∷ 0 ∷ 134217728 ∷ 67108864 ∷ 33554432 ∷ 201326592 ∷ 201326592 ∷ 100663296 ∷ 83886080 ∷ 50331648 ∷ 218103808 ∷ 218103808 ∷ 117440512 ∷ 117440512 ∷
    104857600 ∷ 88080384 ∷ 54525952 ∷ 222298112 ∷ 222298112 ∷ 121634816 ∷ 121634816 ∷ 121634816 ∷ 121634816 ∷ 90177536 ∷ 90177536 ∷ 55574528 ∷ 55574528 ∷
    54788096 ∷ 222560256 ∷ 24117248 ∷ 121896960 ∷ 121896960 ∷ 121700352 ∷ 121700352 ∷ 90439680 ∷ 90439680 ∷ 55836672 ∷ 55836672 ∷ 55640064 ∷ 55640064 ∷
    24379392 ∷ 222625792 ∷ 24182784 ∷ 121962496 ∷ 121962496 ∷ 121962496 ∷ 121962496 ∷ 90505216 ∷ 90505216 ∷ 55902208 ∷ 55902208 ∷ 55902208 ∷ 55902208 ∷
    24444928 ∷ 24444928 ∷ 24444928 ∷ 24444928 ∷ 24383488 ∷ 222629888 ∷ 24186880 ∷ 121966592 ∷ 121966592 ∷ 121963520 ∷ 121963520 ∷ 90509312 ∷ 90509312 ∷
    55906304 ∷ 55906304 ∷ 55903232 ∷ 55903232 ∷ 24449024 ∷ 24449024 ∷ 24445952 ∷ 24445952 ∷ 24445952 ∷ 24445952 ∷ 24384512 ∷ 222630912 ∷ 22360064 ∷ 121967616 ∷
    121967616 ∷ 121967616 ∷ 121967616 ∷ 90510336 ∷ 90510336 ∷ 55907328 ∷ 55907328 ∷ 55907328 ∷ 55907328 ∷ 24450048 ∷ 24450048 ∷ 24450048 ∷ 24450048 ∷ 24449088 ∷
    24449088 ∷ 24446016 ∷ 24446016 ∷ 22361088 ∷ 22361088 ∷ 22361088 ∷ 22361088 ∷ 22360128 ∷ 121967680 ∷ 121967680 ∷ 121967680 ∷ 121967680 ∷ 90510400 ∷
    90510400 ∷ 55907392 ∷ 55907392 ∷ 55907392 ∷ 55907392 ∷ 24450112 ∷ 24450112 ∷ 24450112 ∷ 24450112 ∷ 24450112 ∷ 24450112 ∷ 24450049 ∷ 24450049 ∷ 22361152 ∷ []

-- the lengths that the lowest i bits of m stand for, the first of them for i + 1 and the last for 2, before those of l
unfoldable pub mask_lengths : ℕ → ℕ → List ℕ → List ℕ
mask_lengths zero m l = l
mask_lengths (suc i) m l =
    let more = suc (suc i) ∷ l in
    mask_lengths i (m / 2) (cond (eqb (m % 2) 1) more l)

-- the lengths above 1 for n points, of which the longest is 29
unfoldable pub long_lengths : ℕ → List ℕ
unfolding masks mask_lengths
long_lengths n = mask_lengths 28 (get_or masks n 0) []

-- the points that are left are fixed points, which come first
unfoldable pub landau_lengths : ℕ → List ℕ
unfolding long_lengths
landau_lengths n = replicate (n - total (λ x. x) (long_lengths n)) 1 ++ long_lengths n
