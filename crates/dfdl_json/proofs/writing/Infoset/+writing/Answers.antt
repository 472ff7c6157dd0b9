use Rattle.std.proofs.Common.{◌<◌, ◌+◌, ◌∙◌, ℕ, List, [], ◌∷◌, length, drop, Result, Ok, Err, IfOk, refl, sym, ap, subst, arith}
use Rattle.std.proofs.lemmas.Option.{MatchOption-at_none}
use Rattle.json.specs.Token as token
use Rattle.dfdl_json.specs.Lines.{members_of}
use Rattle.dfdl_json.specs.Ready.{AreMembers, IsFirst, Starts, elements, tokens_of_items}
use Rattle.dfdl_json.specs.Sorted.{behind, run}
use Rattle.dfdl_json.proofs.Firsts.{later}
use Rattle.dfdl_json.proofs.Linked.{on_ok}
use Rattle.dfdl_json.proofs.Nodes.{item_is, name_is, own_object, own_simple, texts_of, value_array, value_element}
use Rattle.dfdl_json.proofs.SoFar.{all_members, items_begin, items_end, items_go_on, object_begins, object_ends, object_goes_on}
use Rattle.dfdl_json.proofs.Writes.{adds_as, adds_more, wrote}
use Rattle.dfdl_json.proofs.writing.Infoset.+writing.Goals as goal

if_ok : {T E : Type 0} {P Q : T → Type 0} (r : Result T E) → IfOk r P → ((x : T) → P x → Q x) → IfOk r Q
if_ok (Ok x) holds then = then x holds
if_ok (Err e) holds then = holds

pub write_element-write_simple-requires : goal.write_element-write_simple-requires
write_element-write_simple-requires t c =
    texts_of c.args.self.now c.args.number c.node-node.result c.requires.ready c.requires.here c.node-node.ensures

pub write_object-loop-link-init : goal.write_object-loop-link-init
write_object-loop-link-init t c =
    object_begins c.args.self.now c.args.number c.args.out.now c.begin_object.new.self c.first-at.result c.requires.ready c.requires.here
    (wrote _ _ _ c.in_ok-begin_object.ensures)
    (all_members c.args.self.now c.args.number c.first-at.result c.requires.ready c.requires.here c.first-at.ensures)

pub write_object-link_at-requires : goal.write_object-link_at-requires
write_object-link_at-requires t c =
    let so_far = c.loop-link.invariant in (c.args.number, so_far.from, so_far.left, so_far.members)

pub write_object-write_member-requires : goal.write_object-write_member-requires
write_object-write_member-requires t c =
    let inside = c.args.self.now in
    let so_far = c.loop-link.invariant in
    let first : IsFirst inside c.args.number c.loop-link.at so_far.left c.in-Some.link = c.in-Some.ensures c.args.number so_far.from so_far.left so_far.members in
    (omega arith, (c.requires.ready, (c.requires.here, (first.rest, first.starts))))

pub write_object-loop-link-preserved : goal.write_object-loop-link-preserved
write_object-loop-link-preserved t c =
    let so_far = c.loop-link.invariant in
    let first : IsFirst c.args.self.now c.args.number c.loop-link.at so_far.left c.in-Some.link = c.in-Some.ensures c.args.number so_far.from so_far.left so_far.members in
    let written = c.in_ok-at.ensures first.rest first.starts in
    object_goes_on c.args.self.now c.args.number c.args.out.now c.loop-link.out c.write_member.new.out c.loop-link.at c.in_ok-at.at c.in-Some.link
    c.requires.ready so_far first written.0 written.1

pub write_object-loop-link-smaller : goal.write_object-loop-link-smaller
write_object-loop-link-smaller t c =
    let so_far = c.loop-link.invariant in
    let first : IsFirst c.args.self.now c.args.number c.loop-link.at so_far.left c.in-Some.link = c.in-Some.ensures c.args.number so_far.from so_far.left so_far.members in
    let written = c.in_ok-at.ensures first.rest first.starts in
    omega (arith, first.less, written.2)

pub write_object-returns : goal.write_object-returns
write_object-returns t c =
    let so_far = c.loop-link.invariant in
    on_ok c.end_object.result c.end_object.ensures.ok
    (λ tokens. object_ends c.args.self.now c.args.number c.args.out.now c.loop-link.out c.end_object.new.self c.loop-link.at so_far
    (MatchOption-at_none _ _ c.in_default.is (c.link_at.ensures c.args.number so_far.from so_far.left so_far.members))
    (record { before = c.end_object.ensures.room.0; tokens = tokens }))

pub write_element-returns-then-has_elements : goal.write_element-returns-then-has_elements
write_element-returns-then-has_elements t c =
    on_ok c.write_object.result c.write_object.ensures
    (λ adds. own_object c.args.self.now c.args.number c.node-node.result c.args.out.now c.write_object.new.out c.requires.here c.node-node.ensures
    (sym c.has_elements.ensures ∙ c.if-has_elements.true) adds)

pub write_element-returns : goal.write_element-returns
write_element-returns t c =
    let inside = c.args.self.now in
    let entries = members_of inside.terms.now inside.text.now (c.args.number + 1) (drop (c.args.number + 1) inside.nodes.now) c.args.number in
    on_ok c.write_simple.result c.write_simple.ensures
    (λ adds. own_simple inside c.args.number c.node-node.result c.args.out.now c.write_simple.new.out c.requires.here c.node-node.ensures
    (adds entries (sym c.has_elements.ensures ∙ c.if-has_elements.false)))

pub write_member-returns : goal.write_member-returns
write_member-returns t c = λ is starts.
    let inside = c.args.self.now in
    let (value, rest, are, same, less) = c.in_ok-next.ensures is starts in
    let passed = c.behind.ensures c.args.number rest (subst (λ (r : ℕ). AreMembers inside c.args.number r c.in_ok-next.next rest) (sym c.rank_of-rank.ensures) are) in (
      adds_more c.args.out.now c.key.new.self c.write_value.new.out _ _
          (adds_as _ _ _ _ (ap (λ n. token.key n ∷ []) (c.name_of.ensures ∙ name_is inside c.args.link.node c.node-node.result starts.within c.node-node.ensures)) (wrote _ _ _ c.in_ok-key.ensures)) value,
      subst (λ (r : ℕ). AreMembers inside c.args.number r c.behind.result (behind (elements inside) r is)) c.rank_of-rank.ensures
          (subst (λ (is : List ℕ). AreMembers inside c.args.number c.rank_of-rank.result c.behind.result is)
          (ap (λ r. behind (elements inside) r rest) c.rank_of-rank.ensures ∙ (same ∙ ap (λ r. behind (elements inside) r is) (sym c.rank_of-rank.ensures))) passed.0),
      omega (arith, passed.1, less),
    )

pub write_value-returns-then-has : goal.write_value-returns-then-has
write_value-returns-then-has t c =
    let inside = c.args.self.now in
    if_ok c.write_array.result c.write_array.ensures
    (λ next written is starts.
    let items = sym (item_is inside c.args.link.node c.node-node.result c.requires.ready starts.within c.node-node.ensures) ∙ (sym c.has.ensures ∙ c.if-has.true) in
    let (value, rest, are, same, less) = written is starts in
    (value_array inside c.args.link.node is c.args.out.now c.write_array.new.out items value, rest, are, same, less))

pub write_value-returns : goal.write_value-returns
write_value-returns t c = λ is starts.
    let inside = c.args.self.now in
    let plain = sym (item_is inside c.args.link.node c.node-node.result c.requires.ready starts.within c.node-node.ensures) ∙ (sym c.has.ensures ∙ c.if-has.false) in
    (value_element inside c.args.link.node is c.args.out.now c.write_element.new.out plain c.in_ok-write_element.ensures, is, starts.behind, refl, omega arith)

pub write_array-returns : goal.write_array-returns
write_array-returns t c =
    let inside = c.args.self.now in
    let rank_is = c.rank_of-rank.ensures in
    if_ok c.write_items.result c.write_items.ensures
    (λ next written is starts.
    let (items, rest, are, same, less) = written is (subst (λ (r : ℕ). AreMembers inside c.args.number r c.args.link.next is) (sym rank_is) starts.behind) in (
      adds_more c.args.out.now c.begin_array.new.self c.write_items.new.out (token.begin_array ∷ []) _ (wrote _ _ _ c.in_ok-begin_array.ensures)
          (adds_more c.begin_array.new.self c.write_element.new.out c.write_items.new.out _ _ c.in_ok-write_element.ensures
          (adds_as _ _ _ _ (ap (λ k. tokens_of_items (run (elements inside) k is)) rank_is) items)),
      rest,
      subst (λ (r : ℕ). AreMembers inside c.args.number r next rest) rank_is are,
      ap (λ k. behind (elements inside) k rest) (sym rank_is) ∙ (same ∙ ap (λ k. behind (elements inside) k is) rank_is),
      less,
    ))

pub write_items-loop-link-init : goal.write_items-loop-link-init
write_items-loop-link-init t c = λ is are. items_begin c.args.self.now c.args.number c.args.rank c.args.out.now c.args.next is are

pub write_items-next_item-requires : goal.write_items-next_item-requires
write_items-next_item-requires t c =
    let (is, are) = c.requires.members in
    let so_far = c.loop-link.invariant is are in
    record { ready = c.requires.ready; members = (c.args.number, c.args.rank, so_far.left, so_far.members) }

pub write_items-write_element-requires : goal.write_items-write_element-requires
write_items-write_element-requires t c =
    let inside = c.args.self.now in
    let (is, are) = c.requires.members in
    let so_far = c.loop-link.invariant is are in
    let next = c.in-Some.ensures c.args.number c.args.rank so_far.left so_far.members in
    let starts : Starts inside c.args.number c.in-Some.link next.0.rest = next.0.starts in
    let within : c.in-Some.link.node < length inside.nodes.now = starts.within in
    let behind_it : c.args.number < c.in-Some.link.node = later inside c.args.number c.in-Some.link.node starts.stands_there in
    (omega (arith, within, behind_it), (c.requires.ready, within))

pub write_items-loop-link-preserved : goal.write_items-loop-link-preserved
write_items-loop-link-preserved t c = λ is are.
    let so_far = c.loop-link.invariant is are in
    let next = c.in-Some.ensures c.args.number c.args.rank so_far.left so_far.members in
    items_go_on c.args.self.now c.args.number c.args.rank c.args.out.now c.loop-link.out c.write_element.new.out c.args.next c.loop-link.at is c.in-Some.link
    so_far next.0 next.1 next.2 c.in_ok-write_element.ensures

pub write_items-loop-link-smaller : goal.write_items-loop-link-smaller
write_items-loop-link-smaller t c =
    let (is, are) = c.requires.members in
    let so_far = c.loop-link.invariant is are in
    (c.in-Some.ensures c.args.number c.args.rank so_far.left so_far.members).0.less

pub write_items-returns : goal.write_items-returns
write_items-returns t c = λ is are.
    let so_far = c.loop-link.invariant is are in
    items_end c.args.self.now c.args.number c.args.rank c.args.out.now c.loop-link.out c.end_array.new.self c.args.next c.loop-link.at is so_far
    (MatchOption-at_none _ _ c.in_default.is (c.next_item.ensures c.args.number c.args.rank so_far.left so_far.members)) (wrote _ _ _ c.in_ok-end_array.ensures)

pub write_member-node-node-requires : goal.write_member-node-node-requires
write_member-node-node-requires t c = c.requires.starts.1.within

pub write_member-rank_of-rank-requires : goal.write_member-rank_of-rank-requires
write_member-rank_of-rank-requires t c = c.requires.starts.1.within

pub write_member-behind-requires : goal.write_member-behind-requires
write_member-behind-requires t c =
    let (is, starts) = c.requires.starts in
    let (value, rest, are, same, less) = c.in_ok-next.ensures is starts in
    (c.args.number, (elements c.args.self.now).rank c.args.link.node, rest, are)

pub write_value-node-node-requires : goal.write_value-node-node-requires
write_value-node-node-requires t c = c.requires.starts.1.within

pub write_value-write_element-requires : goal.write_value-write_element-requires
write_value-write_element-requires t c =
    let inside = c.args.self.now in
    let (is, starts) = c.requires.starts in
    let within : c.args.link.node < length inside.nodes.now = starts.within in
    let behind_it : c.args.number < c.args.link.node = later inside c.args.number c.args.link.node starts.stands_there in
    (omega (arith, within, behind_it), (c.requires.ready, within))

pub write_array-write_element-requires : goal.write_array-write_element-requires
write_array-write_element-requires t c =
    let inside = c.args.self.now in
    let (is, starts) = c.requires.starts in
    let within : c.args.link.node < length inside.nodes.now = starts.within in
    let behind_it : c.args.number < c.args.link.node = later inside c.args.number c.args.link.node starts.stands_there in
    (omega (arith, within, behind_it), (c.requires.ready, within))

pub write_array-rank_of-rank-requires : goal.write_array-rank_of-rank-requires
write_array-rank_of-rank-requires t c = c.requires.starts.1.within

pub write_array-write_items-requires : goal.write_array-write_items-requires
write_array-write_items-requires t c =
    let inside = c.args.self.now in
    let (is, starts) = c.requires.starts in
    (omega arith, (c.requires.ready, (c.requires.here, (is, subst (λ (r : ℕ). AreMembers inside c.args.number r c.args.link.next is) (sym c.rank_of-rank.ensures) starts.behind))))
