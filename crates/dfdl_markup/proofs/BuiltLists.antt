-- The elements of a tree where one of them is another, and sizes of texts.
use Rattle.std.proofs.Common.{◌≡◌, ℕ, zero, suc, ◌+◌, ◌<◌, ◌≤◌, List, [], ◌∷◌, ◌++◌, length, refl}
use Rattle.std.proofs.Common.{ap, ap₂, sym, subst, ◌∙◌, arith, append_assoc, length-append}
use Rattle.std.proofs.Common.{encode_utf8, flat_map}
use Rattle.std.proofs.lemmas.List.{append-nil}
use Rattle.std.proofs.lemmas.Grind.{flat_map-append}
use Rattle.dfdl_markup.specs.Trees.{Node, size}
use Rattle.dfdl_markup.specs.Building.{changed, changed_in, with_more_text, with_child}

pub size_append : (a b : List ℕ) → size (a ++ b) ≡ size a + size b
size_append a b =
    ap length (flat_map-append encode_utf8 a b)
    ∙ length-append (flat_map encode_utf8 a) (flat_map encode_utf8 b)

-- an element with more children and more text
abbrev pub with_more : List ℕ → List ℕ → Node → Node
with_more children text n = record {
  name = n.name;
  attributes = n.attributes;
  parent = n.parent;
  children = n.children ++ children;
  text = n.text ++ text;
  at = n.at;
}

pub changed_length : (f : Node → Node) (element : ℕ) (nodes : List Node)
    → length (changed f element nodes) ≡ length nodes
changed_length f element [] = refl
changed_length f zero (n ∷ nodes) = refl
changed_length f (suc element) (n ∷ nodes) = ap suc (changed_length f element nodes)

pub changed_same : (f g : Node → Node) (element : ℕ) (nodes : List Node)
    → ((n : Node) → f n ≡ g n) → changed f element nodes ≡ changed g element nodes
changed_same f g element [] same = refl
changed_same f g zero (n ∷ nodes) same = ap (λ m. m ∷ nodes) (same n)
changed_same f g (suc element) (n ∷ nodes) same =
    ap (λ l. n ∷ l) (changed_same f g element nodes same)

pub changed_twice : (f g : Node → Node) (element : ℕ) (nodes : List Node)
    → changed f element (changed g element nodes) ≡ changed (λ n. f (g n)) element nodes
changed_twice f g element [] = refl
changed_twice f g zero (n ∷ nodes) = refl
changed_twice f g (suc element) (n ∷ nodes) = ap (λ l. n ∷ l) (changed_twice f g element nodes)

pub changed_front : (f : Node → Node) (element : ℕ) (nodes more : List Node)
    → element < length nodes → changed f element (nodes ++ more) ≡ changed f element nodes ++ more
changed_front f element [] more less = absurd (omega arith)
changed_front f zero (n ∷ nodes) more less = refl
changed_front f (suc element) (n ∷ nodes) more less =
    ap (λ l. n ∷ l) (changed_front f element nodes more (omega arith))

pub changed_behind : (f : Node → Node) (nodes : List Node) (n : Node) (more : List Node)
    → changed f (length nodes) (nodes ++ n ∷ more) ≡ nodes ++ f n ∷ more
changed_behind f [] n more = refl
changed_behind f (m ∷ nodes) n more = ap (λ l. m ∷ l) (changed_behind f nodes n more)

-- the open elements are among the elements
abbrev pub AreBelow : List ℕ → ℕ → Type 0
AreBelow [] n = Unit {0}
AreBelow (element ∷ ancestors) n = (element < n) × AreBelow ancestors n

pub still_below : (ancestors : List ℕ) (n m : ℕ) → n ≤ m → AreBelow ancestors n
    → AreBelow ancestors m
still_below [] n m most below = tt
still_below (element ∷ ancestors) n m most below =
    (omega (arith, below.0), still_below ancestors n m most below.1)

pub in_length : (f : Node → Node) (ancestors : List ℕ) (nodes : List Node)
    → length (changed_in f ancestors nodes) ≡ length nodes
in_length f [] nodes = refl
in_length f (element ∷ ancestors) nodes = changed_length f element nodes

pub in_same : (f g : Node → Node) (ancestors : List ℕ) (nodes : List Node)
    → ((n : Node) → f n ≡ g n) → changed_in f ancestors nodes ≡ changed_in g ancestors nodes
in_same f g [] nodes same = refl
in_same f g (element ∷ ancestors) nodes same = changed_same f g element nodes same

-- more and then more again
more_twice : (ks ls : List ℕ) (a b : List ℕ) (n : Node)
    → with_more ls b (with_more ks a n) ≡ with_more (ks ++ ls) (a ++ b) n
more_twice ks ls a b n =
    ap₂ (λ children text. record {
      name = n.name;
      attributes = n.attributes;
      parent = n.parent;
      children = children;
      text = text;
      at = n.at;
    }) (append_assoc n.children ks ls) (append_assoc n.text a b)

pub in_twice : (ks ls : List ℕ) (a b : List ℕ) (ancestors : List ℕ) (nodes more : List Node)
    → AreBelow ancestors (length nodes)
    → changed_in (with_more ls b) ancestors (changed_in (with_more ks a) ancestors nodes ++ more)
    ≡ changed_in (with_more (ks ++ ls) (a ++ b)) ancestors nodes ++ more
in_twice ks ls a b [] nodes more below = refl
in_twice ks ls a b (element ∷ ancestors) nodes more below =
    changed_front (with_more ls b) element (changed (with_more ks a) element nodes) more
    (subst (λ n. element < n) (sym (changed_length (with_more ks a) element nodes)) below.0)
    ∙ ap (λ l. l ++ more)
    (changed_twice (with_more ls b) (with_more ks a) element nodes
    ∙ changed_same _ _ element nodes (more_twice ks ls a b))

-- text alone, a child alone
pub text_more : (text : List ℕ) (ancestors : List ℕ) (nodes : List Node)
    → changed_in (with_more_text text) ancestors nodes
    ≡ changed_in (with_more [] text) ancestors nodes
text_more text ancestors nodes =
    in_same (with_more_text text) (with_more [] text) ancestors nodes
    (λ n. ap (λ children. record {
      name = n.name;
      attributes = n.attributes;
      parent = n.parent;
      children = children;
      text = n.text ++ text;
      at = n.at;
    }) (sym (append-nil n.children)))

pub child_more : (child : ℕ) (ancestors : List ℕ) (nodes : List Node)
    → changed_in (with_child child) ancestors nodes
    ≡ changed_in (with_more (child ∷ []) []) ancestors nodes
child_more child ancestors nodes =
    in_same (with_child child) (with_more (child ∷ []) []) ancestors nodes
    (λ n. ap (λ text. record {
      name = n.name;
      attributes = n.attributes;
      parent = n.parent;
      children = n.children ++ child ∷ [];
      text = text;
      at = n.at;
    }) (sym (append-nil n.text)))

-- nothing more
more_nothing : (n : Node) → with_more [] [] n ≡ n
more_nothing n =
    ap₂ (λ children text. record {
      name = n.name;
      attributes = n.attributes;
      parent = n.parent;
      children = children;
      text = text;
      at = n.at;
    }) (append-nil n.children) (append-nil n.text)

changed_none : (f : Node → Node) (element : ℕ) (nodes : List Node) → ((n : Node) → f n ≡ n)
    → changed f element nodes ≡ nodes
changed_none f element [] same = refl
changed_none f zero (n ∷ nodes) same = ap (λ m. m ∷ nodes) (same n)
changed_none f (suc element) (n ∷ nodes) same =
    ap (λ l. n ∷ l) (changed_none f element nodes same)

pub nothing_more : (ancestors : List ℕ) (nodes : List Node)
    → changed_in (with_more [] []) ancestors nodes ≡ nodes
nothing_more [] nodes = refl
nothing_more (element ∷ ancestors) nodes =
    changed_none (with_more [] []) element nodes more_nothing

pub in_twice_text : (first second : List ℕ) (ancestors : List ℕ) (nodes : List Node)
    → changed_in (with_more_text second) ancestors
    (changed_in (with_more_text first) ancestors nodes)
    ≡ changed_in (with_more_text (first ++ second)) ancestors nodes
in_twice_text first second [] nodes = refl
in_twice_text first second (element ∷ ancestors) nodes =
    changed_twice (with_more_text second) (with_more_text first) element nodes
    ∙ changed_same _ _ element nodes (λ n. ap (λ text. record {
      name = n.name;
      attributes = n.attributes;
      parent = n.parent;
      children = n.children;
      text = text;
      at = n.at;
    }) (append_assoc n.text first second))

pub in_no_text : (ancestors : List ℕ) (nodes : List Node)
    → changed_in (with_more_text []) ancestors nodes ≡ nodes
in_no_text ancestors nodes = text_more [] ancestors nodes ∙ nothing_more ancestors nodes
