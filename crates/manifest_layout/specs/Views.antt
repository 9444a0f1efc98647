-- `item_view`, `section_view`, `plan_view`: items, sections and plans of the code, in the words of
-- the definitions. (This project's own.)
use Rattle.std.specs.Prelude.{ℕ, List, map, get_or}
use Rattle.manifest_tree.specs.Names.{Fill, no_bytes, text, source}
use Rattle.manifest_tree.specs.Items.{Item, Section, Body, super, record_of, table_of, text_of}
use Rattle.manifest_tree.specs.Items.{contents_of}
use Rattle.formats.specs.Format.{format_of}
use Rattle.manifest_layout.specs.Plans.{Planned}
use Rattle.formats.specs.declared.format.Format as code_format
use Rattle.manifest_layout.specs.declared.item.Item as code_item
use Rattle.manifest_layout.specs.declared.item.Fill as code_fill
use Rattle.manifest_layout.specs.declared.item.Fill.TheVariants as fill
use Rattle.manifest_layout.specs.declared.section.Section as code_section
use Rattle.manifest_layout.specs.declared.section.Body as code_body
use Rattle.manifest_layout.specs.declared.section.Body.TheVariants as body

abbrev pub fill_view : code_fill.Fill → Fill
fill_view fill.Nothing = no_bytes
fill_view (fill.Text t) = text t
fill_view (fill.File k) = source k

abbrev pub item_view : code_item.Item → Item
item_view i = record {
  place = i.place;
  first = get_or i.words 0 0;
  second = get_or i.words 1 0;
  third = get_or i.words 2 0;
  name = i.name;
  table = i.table;
  start = i.start;
  len = i.len;
  fill = fill_view i.fill;
}

abbrev pub body_view : code_body.Body → Body
body_view body.Super = super
body_view (body.Record i) = record_of i
body_view (body.Table i) = table_of i
body_view (body.Text i) = text_of i
body_view (body.Content k) = contents_of k

abbrev pub section_view : code_section.Section → Section
section_view s = record { place = s.place; len = s.len; body = body_view s.body }

-- a plan of these parts
abbrev pub plan_view : code_format.Format → List ℕ → ℕ → List code_item.Item
    → List code_section.Section → List ℕ → Planned
plan_view format volume image_len items sections sizes = record {
  format = format_of format;
  volume = volume;
  image_len = image_len;
  items = map item_view items;
  sections = map section_view sections;
  sizes = sizes;
}
