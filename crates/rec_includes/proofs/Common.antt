-- Names that several proofs cite, passed on from one place. Declares nothing.
pub use Rattle.std.proofs.Common.{◌≡◌, ℕ, zero, suc, ◌<◌, ◌≤◌, true, ◌||◌, List, [], ◌∷◌, ◌++◌, fold, take, slice_get, Option, Some, None, refl, sym, ap, subst, ◌∙◌, arith, eqb-true, Bool, false, cond, append_assoc, append-nil, nat_eq, eq-eqb, length-append, ◌+◌, length, map, length-take, length-take-le, true≢false, ◌-◌, min, nat_lt, ◌⊎◌, drop, add-one, take-suc, ◌*◌, ◌^◌, suc-mul, get_or, drop-cons, IfSome, set, All, Contains, length-set, get_or-set_other, get_or-set_same, inl, inr}
pub use Rattle.std.proofs.lemmas.Bool.Decides.{nat_tests}
pub use Rattle.std.proofs.lemmas.Grind.{common_steps}
pub use Rattle.std.proofs.lemmas.List.{map-append, take-map, length-map, get_or_default, nil_from_length}
pub use Rattle.std.proofs.lemmas.List.Elements.{All-from_recursion, recursion_from_All}
pub use Rattle.std.proofs.lemmas.Option.{slice_get_cases, slice_get_within, get_or_from_slice_get, slice_get-get_or}
pub use Rattle.std.specs.Cmp.Lexicographic.{pointwise, bytes_decides}
pub use Rattle.std.specs.Global.{Vec}
pub use Rattle.std.specs.List.{list_any, sum_by, flat_map, AllByRecursion}
pub use Rattle.std.specs.Map.{lookup}
pub use Rattle.std.specs.Option.{option_map_or, is_some, option_to_list}
pub use Rattle.std.specs.Str.{bytes_eq}
pub use Rattle.rec_reader.specs.declared.syntax_tree.Specification.{Specification}
pub use Rattle.rec_reader.specs.declared.token.Name.{Name}
pub use Rattle.rec_includes.specs.Forest.{put, preorder, cut, Follows, parent_of, Leads}
pub use Rattle.rec_includes.specs.Indexed.{PlacesRise, IsIndexed}
pub use Rattle.rec_includes.specs.Listing.{place_in}
pub use Rattle.rec_includes.specs.Material.{Header, brought, included, with_numbers, headers_of, material_of, fresh, header_after, specifications_at}
pub use Rattle.rec_includes.specs.Names.{text_of, same_text, is_among}
pub use Rattle.rec_includes.specs.Numbered.{header_names, target, IsClosed, includes_at, first_target}
pub use Rattle.rec_includes.specs.Walk.{after, missing, next_in}
pub use Rattle.rec_includes.specs.declared.gathering.Frame.{Frame}
