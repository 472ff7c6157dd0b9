-- Attributes and children one after another, each with the properties that it writes.
use Rattle.std.proofs.Common.{◌≡◌, sym, subst, ℕ, ◌+◌, ◌<◌, List, [], ◌∷◌, length, drop, get_or, Bool, true, false, if◌then◌else◌, cond, filter}
use Rattle.std.proofs.lemmas.List.{drop_more}
use Rattle.std.specs.List.{flat_map}
use Rattle.dfdl_markup.specs.Trees.{Node}
use Rattle.dfdl_markup.specs.Values.{Attribute}
use Rattle.dfdl_xml_tree.specs.Texts.{no_attribute}
use Rattle.dfdl_scope.specs.declared.properties.Properties.{Properties}
use Rattle.dfdl_properties.specs.Forms.{among_attributes, writes_property, written_by}
use Rattle.dfdl_properties.specs.Written.{Written}
use Rattle.dfdl_properties.specs.Shown.{IsWith}
use Rattle.dfdl_properties.proofs.With.{with-both, with-first}

module _ (nodes : List Node) (element : ℕ) (namespace : List ℕ) (attributes : List Attribute) (at : ℕ) (within : at < length attributes) (held last : Properties) where
  -- the next attribute
  next : Attribute
  next = get_or attributes at no_attribute

  behind : List Attribute
  behind = drop (at + 1) attributes

  by-test : (b : Bool) → writes_property nodes element namespace next ≡ b
      → IsWith held (if b then written_by next ∷ among_attributes nodes element namespace behind else among_attributes nodes element namespace behind) last
      → IsWith held (among_attributes nodes element namespace (drop at attributes)) last
  unfolding next behind
  by-test b test done =
      subst (λ (left : List Attribute). IsWith held (among_attributes nodes element namespace left) last) (sym (drop_more attributes at no_attribute within))
      (subst (λ (v : Bool). IsWith held (if v then written_by next ∷ among_attributes nodes element namespace behind else among_attributes nodes element namespace behind) last) (sym test) done)

  -- an attribute that writes a property
  pub attribute-writes : (more : Properties) → writes_property nodes element namespace (get_or attributes at no_attribute) ≡ true
      → IsWith held (written_by (get_or attributes at no_attribute) ∷ []) more
      → IsWith more (among_attributes nodes element namespace (drop (at + 1) attributes)) last
      → IsWith held (among_attributes nodes element namespace (drop at attributes)) last
  unfolding next behind
  attribute-writes more test one others = by-test true test (with-first held more last (written_by next) (among_attributes nodes element namespace behind) one others)

  -- another attribute
  pub attribute-does-not : writes_property nodes element namespace (get_or attributes at no_attribute) ≡ false
      → IsWith held (among_attributes nodes element namespace (drop (at + 1) attributes)) last
      → IsWith held (among_attributes nodes element namespace (drop at attributes)) last
  unfolding next behind
  attribute-does-not test others = by-test false test others

module _ (f : ℕ → List Written) (is_one : ℕ → Bool) (children : List ℕ) (at : ℕ) (within : at < length children) (held last : Properties) where
  by-kind : (b : Bool) → is_one (get_or children at 0) ≡ b
      → IsWith held (flat_map f (cond b (get_or children at 0 ∷ filter is_one (drop (at + 1) children)) (filter is_one (drop (at + 1) children)))) last
      → IsWith held (flat_map f (filter is_one (drop at children))) last
  by-kind b test done =
      subst (λ (cs : List ℕ). IsWith held (flat_map f (filter is_one cs)) last) (sym (drop_more children at 0 within))
      (subst (λ (v : Bool). IsWith held (flat_map f (cond v (get_or children at 0 ∷ filter is_one (drop (at + 1) children)) (filter is_one (drop (at + 1) children)))) last) (sym test) done)

  -- a child of the kind that is sought
  pub child-writes : (more : Properties) → is_one (get_or children at 0) ≡ true
      → IsWith held (f (get_or children at 0)) more
      → IsWith more (flat_map f (filter is_one (drop (at + 1) children))) last
      → IsWith held (flat_map f (filter is_one (drop at children))) last
  child-writes more test one others =
      by-kind true test (with-both held more last (f (get_or children at 0)) (flat_map f (filter is_one (drop (at + 1) children))) one others)

  -- another child
  pub child-does-not : is_one (get_or children at 0) ≡ false
      → IsWith held (flat_map f (filter is_one (drop (at + 1) children))) last
      → IsWith held (flat_map f (filter is_one (drop at children))) last
  child-does-not test others = by-kind false test others

module _ (f : ℕ → List Written) (is_one : ℕ → Bool) (items children : List ℕ) (same : items ≡ children) (at : ℕ) (within : at < length items) (held last : Properties) where
  -- the same of children that are listed so
  pub item-writes : (more : Properties) → is_one (get_or items at 0) ≡ true
      → IsWith held (f (get_or items at 0)) more
      → IsWith more (flat_map f (filter is_one (drop (at + 1) children))) last
      → IsWith held (flat_map f (filter is_one (drop at children))) last
  item-writes more test one =
      subst (λ (cs : List ℕ). IsWith more (flat_map f (filter is_one (drop (at + 1) cs))) last → IsWith held (flat_map f (filter is_one (drop at cs))) last) same
      (child-writes f is_one items at within held last more test one)

  pub item-does-not : is_one (get_or items at 0) ≡ false
      → IsWith held (flat_map f (filter is_one (drop (at + 1) children))) last
      → IsWith held (flat_map f (filter is_one (drop at children))) last
  item-does-not test =
      subst (λ (cs : List ℕ). IsWith held (flat_map f (filter is_one (drop (at + 1) cs))) last → IsWith held (flat_map f (filter is_one (drop at cs))) last) same
      (child-does-not f is_one items at within held last test)
