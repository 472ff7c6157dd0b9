-- The more rules, the fewer documents; so a refusal has one place and one cause.
use Rattle.std.proofs.Common.{◌≡◌, ℕ, suc, ◌≤◌, List, [], ◌∷◌, arith}
use Rattle.std.proofs.Common.{Option, Some, None, ap, sym, subst, ◌∙◌}
use Rattle.dfdl_fronts.proofs.Places.{one_place}
use Rattle.dfdl_layers.specs.Causes.{IsRefused}
use Rattle.dfdl_layers.proofs.Refusals.{one_cause}
use Rattle.dfdl_layers.specs.Causes.{LeavesFewer}
use Rattle.dfdl_layers.specs.Tellers.{Each}
use Rattle.dfdl_markup.specs.Grammar.{Reference, Named, Numbered, Item, Letter, Referred, Given, Tag}
use Rattle.dfdl_markup.specs.Grammar.{Content, Nothing, Character, Referring, Comment, Instruction}
use Rattle.dfdl_markup.specs.Grammar.{Section, Single, Nested, Saying, Declaration, Document}
use Rattle.dfdl_markup.specs.Values.{Binding}
use Rattle.dfdl_markup.specs.Rules.{ReferenceKeeps, ItemKeeps, GivenKeeps, TagKeeps, ContentKeeps}
use Rattle.dfdl_markup.specs.Rules.{SaysEncoding, MayDeclareItself, IsDocument}
use Rattle.dfdl_markup.specs.Documents.{KeepsRules, IsTreeOf, IsRefusedBy, cause_number}
use Rattle.dfdl_markup.specs.Trees.{Node}

module _ (n m : ℕ) (less : n ≤ m) where
  reference_fewer : (reference : Reference) → ReferenceKeeps m reference → ReferenceKeeps n reference
  reference_fewer (Named name) keeps = (keeps.0, λ past. keeps.1 (omega (arith, less, past)))
  reference_fewer (Numbered hexadecimal digits) keeps =
      (keeps.0, keeps.1, λ past. keeps.2 (omega (arith, less, past)))

  item_fewer : (quote : ℕ) (item : Item) → ItemKeeps m quote item → ItemKeeps n quote item
  item_fewer quote (Letter c) keeps = keeps
  item_fewer quote (Referred reference) keeps = reference_fewer reference keeps

  items_fewer : (quote : ℕ) (items : List Item) → Each (ItemKeeps m quote) items
      → Each (ItemKeeps n quote) items
  items_fewer quote [] keep = tt
  items_fewer quote (item ∷ items) keep =
      (item_fewer quote item keep.0, items_fewer quote items keep.1)

  given_fewer : (given : Given) → GivenKeeps m given → GivenKeeps n given
  given_fewer given keeps = record {
    some_space = keeps.some_space;
    space = keeps.space;
    name = keeps.name;
    before = keeps.before;
    after = keeps.after;
    quote = keeps.quote;
    value = items_fewer given.quote given.value keeps.value;
    binds = keeps.binds;
  }

  all_fewer : (attributes : List Given) → Each (GivenKeeps m) attributes
      → Each (GivenKeeps n) attributes
  all_fewer [] keep = tt
  all_fewer (given ∷ attributes) keep = (given_fewer given keep.0, all_fewer attributes keep.1)

  tag_fewer : (scope : List Binding) (tag : Tag) → TagKeeps m scope tag → TagKeeps n scope tag
  tag_fewer scope tag keeps = record {
    name = keeps.name;
    given = all_fewer tag.attributes keeps.given;
    space = keeps.space;
    differ = λ past. keeps.differ (omega (arith, less, past));
    declared = λ past. keeps.declared (omega (arith, less, past));
  }

  content_fewer : (depth : ℕ) (scope : List Binding) (before : ℕ) (content : Content)
      → ContentKeeps m depth scope before content → ContentKeeps n depth scope before content
  content_fewer depth scope before Nothing keeps = tt
  content_fewer depth scope before (Character c next) keeps =
      (keeps.0, keeps.1, λ past. keeps.2 (omega (arith, less, past)), content_fewer depth scope _ next keeps.3)
  content_fewer depth scope before (Referring reference next) keeps = (
    reference_fewer reference keeps.0,
    λ past. keeps.1 (omega (arith, less, past)),
    content_fewer depth scope 0 next keeps.2,
  )
  content_fewer depth scope before (Comment text next) keeps =
      (keeps.0, content_fewer depth scope 0 next keeps.1)
  content_fewer depth scope before (Instruction target text next) keeps =
      (keeps.0, keeps.1, content_fewer depth scope 0 next keeps.2)
  content_fewer depth scope before (Section text next) keeps =
      (keeps.0, keeps.1, content_fewer depth scope 0 next keeps.2)
  content_fewer depth scope before (Single tag next) keeps = (
    tag_fewer scope tag keeps.0,
    λ past. keeps.1 (omega (arith, less, past)),
    content_fewer depth scope 0 next keeps.2,
  )
  content_fewer depth scope before (Nested tag inner end space next) keeps = (
    tag_fewer scope tag keeps.0,
    λ past. keeps.1 (omega (arith, less, past)),
    content_fewer (suc depth) _ 0 inner keeps.2,
    keeps.3,
    keeps.4,
    λ past. keeps.5 (omega (arith, less, past)),
    content_fewer depth scope 0 next keeps.6,
  )

  encoding_fewer : (encoding : Option Saying) → SaysEncoding m encoding → SaysEncoding n encoding
  encoding_fewer None keeps = tt
  encoding_fewer (Some saying) keeps =
      (keeps.0, (keeps.1.0, λ past. keeps.1.1 (omega (arith, less, past))))

  declaration_fewer : (declaration : Option Declaration) → MayDeclareItself m declaration
      → MayDeclareItself n declaration
  declaration_fewer None keeps = tt
  declaration_fewer (Some declaration) keeps = record {
    version = keeps.version;
    number = keeps.number;
    encoding = encoding_fewer declaration.encoding keeps.encoding;
    standalone = keeps.standalone;
    space = keeps.space;
  }

  pub document_fewer : (document : Document) (characters : List ℕ)
      → IsDocument m document characters → IsDocument n document characters
  document_fewer document characters is = record {
    spelled = is.spelled;
    declaration = declaration_fewer document.declaration is.declaration;
    content = content_fewer 0 _ 0 document.content is.content;
    one_root = λ past. is.one_root (omega (arith, less, past));
  }

-- the bytes that keep more rules keep fewer
pub fewer : LeavesFewer KeepsRules
fewer n m bytes less keeps = record {
  characters = keeps.characters;
  are_scalar = λ past. keeps.are_scalar (omega (arith, less, past));
  encoded = λ past. keeps.encoded (omega (arith, less, past));
  allowed = λ past. keeps.allowed (omega (arith, less, past));
  markup = λ past.
      let found = keeps.markup (omega (arith, less, past)) in
      (found.0, document_fewer n m less found.0 keeps.characters found.1);
}

-- a refusal has one place and one cause
pub one_refusal : (bytes : List ℕ) (a b n m : ℕ) → IsRefusedBy bytes a n → IsRefusedBy bytes b m
    → (a ≡ b) × (n ≡ m)
one_refusal bytes a b n m first second =
    let same : a ≡ b =
    one_place (KeepsRules 13) bytes a b first.refused.place second.refused.place in
    let moved : IsRefused KeepsRules 13 bytes b first.rule =
    subst (λ at. IsRefused KeepsRules 13 bytes at first.rule) same first.refused in
    let rules : first.rule ≡ second.rule =
    one_cause KeepsRules 13 fewer bytes b first.rule second.rule moved second.refused in (
      same,
      first.told ∙ ap (λ at. cause_number bytes at first.rule) same
          ∙ ap (λ rule. cause_number bytes b rule) rules ∙ sym second.told,
    )

-- where there is a tree
pub no_tree : (bytes : List ℕ) (at n : ℕ) (nodes : List Node) → IsRefusedBy bytes at n
    → IsTreeOf bytes nodes → ⊥
no_tree bytes at n nodes refused tree =
    refused.refused.place.no_text (record {
      characters = tree.characters;
      are_scalar = λ past. tree.are_scalar;
      encoded = λ past. tree.encoded;
      allowed = λ past. tree.allowed;
      markup = λ past. (tree.document, tree.is_document);
    })
