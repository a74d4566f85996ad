-- Exact counts: what is counted is there, and no more.
use Rattle.std.proofs.Common.{◌≡◌, ◌≢◌, ℕ, ◌+◌, ◌≤◌, Bool, List, length, Contains, refl, sym, ap, arith}
use Rattle.std.specs.Prelude.{◌↔◌}
use Rattle.std.specs.Bool.{Decides}
use Rattle.std.specs.Cmp.{IsEquivalence}
use Rattle.std.specs.List.{All, AllPairs}
use Rattle.std.proofs.lemmas.Bool.Decides.{Decides-like, same_from_decides}
use Rattle.std.proofs.lemmas.List.Elements.{All-contains, Contains-get_or}
use Rattle.std.proofs.lemmas.Map.Made.{IsDistinct-from_AllPairs, is_member-Decides, length-le_from_is_member}
use Rattle.warp_tag.specs.Moment.{Moment, is_same}
use Rattle.warp_table.specs.Announced.{AtLeast}
use Rattle.warp_table.specs.Closed.{AreSoManyNames}
use Rattle.warp_table.specs.Joint.{AtLeastNames}
use Rattle.warp_table.specs.NameCounts.{AreSoMany}
use Rattle.warp_table.proofs.JointCounts.{is_one_name, one_name}
use Rattle.warp_table.proofs.Sets.{same_tag}

-- a test of sameness is an equivalence
equivalence : {X : Type 0} (eq : X → X → Bool) → ((a b : X) → Decides (eq a b) (a ≡ b)) → IsEquivalence eq
equivalence eq dec = record {
  refl = λ a. (dec a a).1 refl;
  symm = λ a b. same_from_decides (eq a b) (eq b a) (dec a b) (Decides-like (eq b a) sym sym (dec b a));
  congr = λ a b c e. ap (λ x. eq x c) ((dec a b).0 e);
}

-- of distinct ones there are at most as many as in a list with all of them
pub at_most : {X : Type 0} (eq : X → X → Bool) → ((a b : X) → Decides (eq a b) (a ≡ b)) → (xs ys : List X) → AllPairs (λ a b. a ≢ b) xs → ((x : X) → Contains xs x → Contains ys x) → length xs ≤ length ys
at_most eq dec xs ys differ within =
    length-le_from_is_member (equivalence eq dec) xs ys (IsDistinct-from_AllPairs dec xs differ)
    (λ x m. (is_member-Decides dec ys x).1 (within x ((is_member-Decides dec xs x).0 m)))

-- what holds of each in a list holds of all of it
all_listed : {X : Type 0} (are : X → Type 0) (xs : List X) → ((x : X) → Contains xs x ↔ are x) → All are xs
all_listed are xs each = λ k d within. (each _).0 (Contains-get_or xs k d within)

pub so_many_there : (are : Moment → Type 0) (count : ℕ) → AreSoMany count are → AtLeast count are
so_many_there are count h = (h.0, h.1, all_listed are h.0 h.2, h.3)

pub so_many_no_more : (are : Moment → Type 0) (count : ℕ) → AreSoMany count are → AtLeast (count + 1) are → ⊥
so_many_no_more are count h more =
    let few : length more.0 ≤ length h.0 = at_most is_same same_tag more.0 h.0 more.1 (λ x has. (h.2 x).1 (All-contains are more.0 x more.2 has)) in
    omega (arith, few, more.3, h.3)

pub names_there : (are : ℕ × Moment → Type 0) (count : ℕ) → AreSoManyNames count are → AtLeastNames count are
names_there are count h = (h.0, h.1, all_listed are h.0 h.2, h.3)

pub names_no_more : (are : ℕ × Moment → Type 0) (count : ℕ) → AreSoManyNames count are → AtLeastNames (count + 1) are → ⊥
names_no_more are count h more =
    let few : length more.0 ≤ length h.0 = at_most is_one_name one_name more.0 h.0 more.1 (λ x has. (h.2 x).1 (All-contains are more.0 x more.2 has)) in
    omega (arith, few, more.3, h.3)
