-- What a content adds to the tree, piece by piece.
use Rattle.std.proofs.Common.{◌≡◌, ℕ, suc, ◌+◌, Bool, List, [], ◌∷◌, ◌++◌, length, Option, Some}
use Rattle.std.proofs.Common.{refl, ap, ap₂, sym, ◌∙◌, append_assoc, length-append, arith}
use Rattle.std.proofs.lemmas.List.{append-nil}
use Rattle.dfdl_markup.specs.Grammar.{Content, Nothing, Character, Referring, Comment, Instruction}
use Rattle.dfdl_markup.specs.Grammar.{Section, Single, Nested, spelling}
use Rattle.dfdl_markup.specs.Trees.{Node, size, text_of, elements, numbers, nodes_of}
use Rattle.dfdl_markup.specs.Building.{Built, changed_in, first_of}
use Rattle.dfdl_markup.proofs.BuiltLists.{with_more, in_length, in_twice, AreBelow, nothing_more}

-- the innermost open element has more children and text, these elements stand behind the others,
-- and so many bytes more are read
pub record Grows (b : Built) (children text : List ℕ) (added : List Node) (bytes : ℕ)
    (c : Built) : Type 0 where
  pub nodes : c.nodes ≡ changed_in (with_more children text) b.ancestors b.nodes ++ added
  pub ancestors : c.ancestors ≡ b.ancestors
  pub at : c.at ≡ b.at + bytes

pub grows_nothing : (b : Built) → Grows b [] [] [] 0 b
grows_nothing b = record {
  nodes = sym (append-nil (changed_in (with_more [] []) b.ancestors b.nodes)
      ∙ nothing_more b.ancestors b.nodes);
  ancestors = refl;
  at = omega arith;
}

pub grows_is : (b c : Built) (ks ls : List ℕ) (t u : List ℕ) (X Y : List Node) (m n : ℕ) → ks ≡ ls
    → t ≡ u
    → X ≡ Y → m ≡ n → Grows b ks t X m c → Grows b ls u Y n c
grows_is b c ks ls t u X Y m n children text added bytes grows = record {
  nodes = grows.nodes ∙ ap₂ (λ l w. l ++ w)
      (ap₂ (λ k w. changed_in (with_more k w) b.ancestors b.nodes) children text) added;
  ancestors = grows.ancestors;
  at = grows.at ∙ ap (λ k. b.at + k) bytes;
}

-- outside of the root there is no text
pub any_text : (b c : Built) (ks : List ℕ) (t u : List ℕ) (X : List Node) (m : ℕ) → b.ancestors ≡ []
    → Grows b ks t X m c → Grows b ks u X m c
any_text b c ks t u X m outside grows = record {
  nodes = grows.nodes ∙ ap (λ l. l ++ X) (same b.ancestors outside);
  ancestors = grows.ancestors;
  at = grows.at;
}
  where
    same : (ancestors : List ℕ) → ancestors ≡ []
        → changed_in (with_more ks t) ancestors b.nodes ≡ changed_in (with_more ks u) ancestors
        b.nodes
    same [] is = refl
    same (element ∷ ancestors) is = absurd (cc)

pub grows_twice : (b c d : Built) (ks ls : List ℕ) (t u : List ℕ) (X Y : List Node) (m n : ℕ)
    → AreBelow b.ancestors (length b.nodes) → Grows b ks t X m c → Grows c ls u Y n d
    → Grows b (ks ++ ls) (t ++ u) (X ++ Y) (m + n) d
grows_twice b c d ks ls t u X Y m n below first second = record {
  nodes = second.nodes
      ∙ ap (λ l. l ++ Y) (ap₂ (λ a l. changed_in (with_more ls u) a l) first.ancestors first.nodes
      ∙ in_twice ks ls t u b.ancestors b.nodes X below)
      ∙ append_assoc (changed_in (with_more (ks ++ ls) (t ++ u)) b.ancestors b.nodes) X Y;
  ancestors = second.ancestors ∙ first.ancestors;
  at = omega (arith, first.at, second.at);
}

pub grown_length : (b c : Built) (ks : List ℕ) (t : List ℕ) (X : List Node) (m : ℕ)
    → Grows b ks t X m c → length c.nodes ≡ length b.nodes + length X
grown_length b c ks t X m grows =
    ap length grows.nodes ∙ length-append (changed_in (with_more ks t) b.ancestors b.nodes) X
    ∙ ap (λ k. k + length X) (in_length (with_more ks t) b.ancestors b.nodes)

-- a content is added
abbrev pub Adds : Built → Content → Built → Type 0
Adds b content c =
    Grows b (numbers content (length b.nodes)) (text_of b.behind_cr content)
    (nodes_of content (first_of b.ancestors) (length b.nodes) b.at) (size (spelling content)) c

-- a piece and then a content
pub then_adds : (b c d : Built) (ks : List ℕ) (t : List ℕ) (X : List Node) (m : ℕ) (cr : Bool)
    (next : Content)
    → AreBelow b.ancestors (length b.nodes) → c.behind_cr ≡ cr → Grows b ks t X m c → Adds c next d
    → Grows b (ks ++ numbers next (length b.nodes + length X)) (t ++ text_of cr next)
    (X ++ nodes_of next (first_of b.ancestors) (length b.nodes + length X) (b.at + m))
    (m + size (spelling next)) d
then_adds b c d ks t X m cr next below behind first second =
    grows_twice b c d ks (numbers next (length b.nodes + length X)) t (text_of cr next) X
    (nodes_of next (first_of b.ancestors) (length b.nodes + length X) (b.at + m)) m
    (size (spelling next))
    below first
    (grows_is c d (numbers next (length c.nodes)) (numbers next (length b.nodes + length X))
    (text_of c.behind_cr next) (text_of cr next)
    (nodes_of next (first_of c.ancestors) (length c.nodes) c.at)
    (nodes_of next (first_of b.ancestors) (length b.nodes + length X) (b.at + m))
    (size (spelling next)) (size (spelling next)) (ap (λ k. numbers next k) longer)
    (ap (λ w. text_of w next) behind)
    (ap₂ (λ a k. nodes_of next (first_of a) k c.at) first.ancestors longer
    ∙ ap (λ k. nodes_of next (first_of b.ancestors) (length b.nodes + length X) k) first.at) refl
    second)
  where
    longer : length c.nodes ≡ length b.nodes + length X
    longer = grown_length b c ks t X m first

-- how many elements a content has
pub nodes_length : (content : Content) (parent : Option ℕ) (first at : ℕ)
    → length (nodes_of content parent first at) ≡ elements content
nodes_length Nothing parent first at = refl
nodes_length (Character c next) parent first at = nodes_length next parent first _
nodes_length (Referring reference next) parent first at = nodes_length next parent first _
nodes_length (Comment text next) parent first at = nodes_length next parent first _
nodes_length (Instruction target text next) parent first at = nodes_length next parent first _
nodes_length (Section text next) parent first at = nodes_length next parent first _
nodes_length (Single tag next) parent first at = ap suc (nodes_length next parent (suc first) _)
nodes_length (Nested tag inner end space next) parent first at =
    ap suc (length-append (nodes_of inner (Some first) (suc first) _) _
    ∙ ap₂ (λ m n. m + n) (nodes_length inner (Some first) (suc first) _)
    (nodes_length next parent _ _))
