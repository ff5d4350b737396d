pub mod ReportLines
