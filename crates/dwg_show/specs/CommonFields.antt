-- The fields of the common parts of objects, in the order of their structs. A rule of this project.
use Rattle.std.specs.Prelude.{◌++◌, codes}
use Rattle.dwg_common.specs.declared.app_data.AppData.{AppData}
use Rattle.dwg_common.specs.declared.entity.EntityCommon.{EntityCommon}
use Rattle.dwg_common.specs.declared.entity.Links.{Links}
use Rattle.dwg_common.specs.declared.object.ObjectCommon.{ObjectCommon}
use Rattle.dwg_show.specs.Fields.{Printer, member, bytes, listed, number, optional, reference, word}

-- what an application keeps with an object
unfoldable pub app_data_fields : Printer AppData
app_data_fields path app_data = member path (codes "application") reference app_data.application ++ member path (codes "bytes") bytes app_data.bytes

-- the entities before and after an entity
unfoldable pub links_fields : Printer Links
links_fields path links = member path (codes "previous") reference links.previous ++ member path (codes "next") reference links.next

-- what all entities have
unfoldable pub entity_common_fields : Printer EntityCommon
entity_common_fields path entity_common =
    member path (codes "app") (listed app_data_fields) entity_common.app
    ++ member path (codes "graphic") (optional bytes) entity_common.graphic
    ++ member path (codes "mode") number entity_common.mode
    ++ member path (codes "owner") (optional reference) entity_common.owner
    ++ member path (codes "reactors") (listed reference) entity_common.reactors
    ++ member path (codes "xdict") reference entity_common.xdict
    ++ member path (codes "links") (optional links_fields) entity_common.links
    ++ member path (codes "colour") number entity_common.colour
    ++ member path (codes "linetype_scale") word entity_common.linetype_scale
    ++ member path (codes "linetype_flag") number entity_common.linetype_flag
    ++ member path (codes "linetype") (optional reference) entity_common.linetype
    ++ member path (codes "plotstyle_flag") number entity_common.plotstyle_flag
    ++ member path (codes "plotstyle") (optional reference) entity_common.plotstyle
    ++ member path (codes "invisible") number entity_common.invisible
    ++ member path (codes "lineweight") number entity_common.lineweight
    ++ member path (codes "layer") reference entity_common.layer

-- what all other objects have
unfoldable pub object_common_fields : Printer ObjectCommon
object_common_fields path object_common =
    member path (codes "app") (listed app_data_fields) object_common.app
    ++ member path (codes "reactors") (listed reference) object_common.reactors
    ++ member path (codes "owner") reference object_common.owner
    ++ member path (codes "xdict") reference object_common.xdict
