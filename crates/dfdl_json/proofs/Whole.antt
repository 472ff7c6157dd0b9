-- The line of an infoset, by what is written of its root element.
use Rattle.std.proofs.Common.{◌≡◌, ℕ, ◌≤◌, List, [], ◌∷◌, ◌++◌, length, get_or, slice_get, sym, ap, subst, ◌∙◌, arith}
use Rattle.std.specs.Str.{IsUtf8}
use Rattle.json.specs.Print.{print}
use Rattle.json.specs.Token as token
use Rattle.json.specs.Written.{Written}
use Rattle.serde_json.proofs.Texts.{print-outline}
use Rattle.serde_json.specs.Data.{Data, object, no_members, put}
use Rattle.dfdl_region.specs.declared.node.Node.{Node}
use Rattle.dfdl_terms.specs.Rows.{Table}
use Rattle.dfdl_json.specs.Adding.{Adds, data_tokens}
use Rattle.dfdl_json.specs.Children.{name_of}
use Rattle.dfdl_json.specs.Lines.{data_of, infoset_of, line_of, members_of}
use Rattle.dfdl_json.specs.Ready.{elements}
use Rattle.dfdl_json.specs.Sorted.{own_in}
use Rattle.dfdl_json.specs.declared.writing.Infoset.{Infoset}
use Rattle.dfdl_json.proofs.Writes.{adds_as, adds_more}

-- what is written is the line
pub line_written : (t : Table) (nodes : List Node) (bytes : List ℕ) (old new : Written) (text line : List ℕ) → old.before ≡ [] → old.tokens ≡ []
    → Adds old new (data_tokens (infoset_of t nodes bytes)) → text ≡ new.before ++ print new.tokens → line ≡ text ++ 10 ∷ [] → line ≡ line_of t nodes bytes
line_written t nodes bytes old new text line before none adds is ended =
    ended
    ∙ ap (λ xs. xs ++ 10 ∷ [])
    (is
    ∙ (ap (λ b. b ++ print new.tokens) (adds.before ∙ before)
    ∙ (ap print (adds.tokens ∙ ap (λ ts. ts ++ data_tokens (infoset_of t nodes bytes)) none) ∙ print-outline (infoset_of t nodes bytes))))

-- and UTF-8
pub whole_utf8 : (old new : Written) (text : List ℕ) (d : Data) → old.before ≡ [] → Adds old new (data_tokens d) → text ≡ new.before ++ print new.tokens
    → IsUtf8 (print new.tokens) → IsUtf8 text
whole_utf8 old new text d before adds is utf8 =
    subst IsUtf8 (sym (is ∙ ap (λ b. b ++ print new.tokens) (adds.before ∙ before))) utf8

own_of : (t : Table) (bytes : List ℕ) (nodes : List Node) (root : Node) → 1 ≤ length nodes → root ≡ get_or nodes 0 root
    → object (put (name_of t root.element) (own_in t bytes nodes 0 (slice_get nodes 0)) no_members) ≡ infoset_of t nodes bytes
own_of t bytes [] root some is = absurd (omega (arith, some))
own_of t bytes (first ∷ nodes) root some is =
    ap (λ (r : Node). object (put (name_of t r.element) (data_of bytes first.content (members_of t bytes 1 nodes 0)) no_members)) is

-- the infoset has the root element as its only member
pub root_is : (infoset : Infoset) (t : Table) (bytes : List ℕ) (nodes : List Node) (root : Node) → infoset.terms.now ≡ t → infoset.nodes.now ≡ nodes → infoset.text.now ≡ bytes
    → 1 ≤ length nodes → root ≡ get_or nodes 0 root
    → object (put (name_of t root.element) ((elements infoset).own 0) no_members) ≡ infoset_of t nodes bytes
root_is infoset t bytes nodes root terms_are nodes_are text_is some is =
    ap (λ d. object (put (name_of t root.element) d no_members))
    (ap (λ u. own_in u infoset.text.now infoset.nodes.now 0 (slice_get infoset.nodes.now 0)) terms_are
    ∙ (ap (λ b. own_in t b infoset.nodes.now 0 (slice_get infoset.nodes.now 0)) text_is
    ∙ ap (λ ns. own_in t bytes ns 0 (slice_get ns 0)) nodes_are))
    ∙ own_of t bytes nodes root some is

-- the root element is written as the only member of an object
pub root_written : (infoset : Infoset) (t : Table) (bytes : List ℕ) (nodes : List Node) (root : Node) (name : List ℕ) (one two three four five : Written)
    → infoset.terms.now ≡ t → infoset.nodes.now ≡ nodes → infoset.text.now ≡ bytes → 1 ≤ length nodes → root ≡ get_or nodes 0 root → name ≡ name_of t root.element
    → Adds one two (token.begin_object ∷ []) → Adds two three (token.key name ∷ []) → Adds three four (data_tokens ((elements infoset).own 0))
    → Adds four five (token.end_object ∷ []) → Adds one five (data_tokens (infoset_of t nodes bytes))
root_written infoset t bytes nodes root name one two three four five terms_are nodes_are text_is some is named begins has value ends =
    adds_as one five
    ((token.begin_object ∷ []) ++ ((token.key name ∷ []) ++ (data_tokens ((elements infoset).own 0) ++ token.end_object ∷ [])))
    (data_tokens (infoset_of t nodes bytes))
    (ap (λ n. data_tokens (object (put n ((elements infoset).own 0) no_members))) named
    ∙ ap data_tokens (root_is infoset t bytes nodes root terms_are nodes_are text_is some is))
    (adds_more one two five (token.begin_object ∷ []) ((token.key name ∷ []) ++ (data_tokens ((elements infoset).own 0) ++ token.end_object ∷ [])) begins
    (adds_more two three five (token.key name ∷ []) (data_tokens ((elements infoset).own 0) ++ token.end_object ∷ []) has
    (adds_more three four five (data_tokens ((elements infoset).own 0)) (token.end_object ∷ []) value ends)))
